-- The entries of a scheduler. No public clause cites this module.
use Rattle.std.specs.Prelude.{ℕ, Bool, true, false, cond, ◌==◌, Option, Some, None}
use Rattle.portmap_scheduler.specs.{Links.is_current, declared.Tracked.Tracked}
use Rattle.portmap_scheduler.specs.declared.LinkState.{LinkState, TheVariants.{Idle, Current}}

abbrev pub one : Bool → ℕ
one b = cond b 1 0

-- A link that is neither queued nor pending.
abbrev pub is_free : Option LinkState → Bool
is_free (Some Idle) = true
is_free (Some Current) = true
is_free _ = false

abbrev pub is_key : Option ℕ → ℕ → Bool
is_key None k = false
is_key (Some j) k = j == k

module _ {T : Type 0} where
  abbrev pub link_of : Option (Tracked T) → Option (T × LinkState)
  link_of None = None
  link_of (Some h) = Some (h.value, h.state)

  abbrev pub with_link_state : LinkState → Option (Tracked T) → Option (Tracked T)
  with_link_state state None = None
  with_link_state state (Some h) = Some (record h { state = state })

  abbrev pub is_current_in : Option (T × LinkState) → Bool
  is_current_in None = false
  is_current_in (Some link) = is_current link.1
