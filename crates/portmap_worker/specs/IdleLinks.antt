-- The idle links of a worker, and the effect of a report: profile.
use Rattle.std.specs.Prelude.{◌≡◌, ◌≢◌, ℕ, ◌==◌, Bool, true, false, cond}
use Rattle.std.specs.Prelude.{List, [], ◌∷◌, ◌++◌, fold, Option, Some, None, length, ◌<◌}
use Rattle.std.specs.Prelude.{option_map, is_some}
use Rattle.portmap_scheduler.specs.{Links.{Links, link_at, times}, Runs.before}
use Rattle.portmap_scheduler.specs.declared.LinkState.{LinkState, TheVariants.{Idle, Queued}}
use Rattle.portmap_worker.specs.{Quiet.is_quiet, declared.open_link.OpenLink.OpenLink}
use Rattle.portmap_worker.specs.declared.readiness.Note.{Note, TheVariants.{Reported}}
use Rattle.portmap_worker.specs.declared.source.Turn.{Turn, TheVariants.{Fresh}}
use Rattle.portmap_worker.specs.declared.system.Report.{Report, TheVariants.{Stream}}

-- The state of a link after a report: queued if it was idle, and otherwise unchanged.
abbrev pub place_reported : LinkState → LinkState
place_reported Idle = Queued
place_reported place = place

-- The notes of the link with this key, if there is such a link, after a report.
abbrev pub hears : ℕ → Option (List Note) → Report → Option (List Note)
hears k notes (Stream key closed) = cond (key == k) (option_map (λ notes. notes ++ Reported ∷ []) notes) notes
hears k notes report = notes

-- A fact about a key: there is a link or not; no event of its link can be missed; or its link is queued behind fewer others than a number.
pub data Fact : Type 0 where
  There : ℕ → Bool → Fact
  Safe : ℕ → Fact
  Ahead : ℕ → ℕ → Fact

-- The fact stays true when a link arrives under this key, or when a link ends there.
abbrev pub Spares : ℕ → Bool → Fact → Type 0
Spares key comes (There k there) = k ≢ key
Spares key comes (Safe k) = Unit {0}
Spares key true (Ahead k most) = Unit {0}
Spares key false (Ahead k most) = k ≢ key

-- The fact is about a link, and not about the queue.
abbrev pub IsOfLink : Fact → Type 0
IsOfLink (Ahead k most) = ⊥
IsOfLink fact = Unit {0}

module _ {S : Type 0} where
  -- The events of the link's stream.
  abbrev pub notes_of : OpenLink S → List Note
  notes_of held = held.link.readiness.notes

  -- No event of the link can be missed.
  abbrev pub is_calm : OpenLink S → Bool
  is_calm held = is_quiet (notes_of held)

  -- No event of the link can be missed in its state. A link that isn't idle is looked at again.
  abbrev pub is_safe : Option (OpenLink S × LinkState) → Bool
  is_safe (Some (held, Idle)) = is_calm held
  is_safe other = true

  -- There is a link under this key, or there is not.
  abbrev pub Has : Links (OpenLink S) → ℕ → Bool → Type 0
  Has links k there = is_some (link_at links k) ≡ there

  abbrev pub Holds : Fact → Links (OpenLink S) → Type 0
  Holds (There k there) links = Has links k there
  Holds (Safe k) links = is_safe (link_at links k) ≡ true
  Holds (Ahead k most) links = (0 < times k links.queue) × (length (before k links.queue) < most)

  -- No event of an idle link can be missed.
  pub record AllQuiet (links : Links (OpenLink S)) : Type 0 where
    pub safe : (k : ℕ) → Holds (Safe k) links

  -- All facts stay true.
  abbrev pub Keeps : Links (OpenLink S) → Links (OpenLink S) → Type 0
  Keeps old new = (fact : Fact) → Holds fact old → Holds fact new

  -- All facts about links stay true.
  abbrev pub KeepsLinks : Links (OpenLink S) → Links (OpenLink S) → Type 0
  KeepsLinks old new = (fact : Fact) → IsOfLink fact → Holds fact old → Holds fact new

  -- There is a link under this key now, or no longer, and all other facts stay true.
  pub record Changes (key : ℕ) (there : Bool) (old new : Links (OpenLink S)) : Type 0 where
    pub now : Has new key there
    pub others : (fact : Fact) → Spares key there fact → Holds fact old → Holds fact new

  -- If the turn announces a new link, that link has arrived, and all other facts stay true. `kept` holds after any other turn.
  abbrev pub Returned : Type 0 → Links (OpenLink S) → Links (OpenLink S) → Option Turn → Type 0
  Returned kept old new None = Keeps old new
  Returned kept old new (Some (Fresh key local)) = Has old key false × Changes key true old new
  Returned kept old new turn = kept

  -- All facts stay true, except that a new link may have arrived.
  abbrev pub Returns : Links (OpenLink S) → Links (OpenLink S) → Option Turn → Type 0
  Returns old new turn = Returned (Keeps old new) old new turn

  -- As in `Returns`, but a turn may also have taken a link from the queue, so that only facts about links stay true.
  abbrev pub ReturnsLinks : Links (OpenLink S) → Links (OpenLink S) → Option Turn → Type 0
  ReturnsLinks old new turn = Returned (KeepsLinks old new) old new turn

  -- The poll has reported the link.
  abbrev pub IsReported : Option (OpenLink S × LinkState) → Option (OpenLink S × LinkState) → Type 0
  IsReported (Some old) (Some new) = (new.1 ≡ place_reported old.1) × (notes_of new.0 ≡ notes_of old.0 ++ Reported ∷ [])
  IsReported old new = new ≡ old

  abbrev pub noted_at : Links (OpenLink S) → ℕ → Option (List Note)
  noted_at links k = option_map (λ l. notes_of l.0) (link_at links k)

  -- Each report is noted at its link, and nothing else is noted.
  abbrev pub AreNoted : List Report → Links (OpenLink S) → Links (OpenLink S) → Type 0
  AreNoted reports old new = (k : ℕ) → noted_at new k ≡ fold (hears k) (noted_at old k) reports
