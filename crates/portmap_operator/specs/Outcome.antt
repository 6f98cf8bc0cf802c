-- What an entry of the log was: profile.
use Rattle.std.specs.Prelude.{ℕ, ◌≡◌, Bool, List, [], ◌∷◌, true, false, not, Option, Some, None, ◌==◌, ◌||◌, if◌then◌else◌}
use Rattle.std.specs.Prelude.{slice_index_or, slice_set}
use Rattle.portmap_wire.specs.{Node.Node, Reply.{alive_reply, port2_reply}}
use Rattle.portmap_core.specs.Entry.{Entry, Connected, Piece, Closed, Faulted, Late}
use Rattle.portmap_core.specs.declared.event.Fate.{Fate, TheVariants.{Close}}
use Rattle.portmap_operator.specs.Remote.{AsksFor}
use Rattle.portmap_operator.specs.declared.remote.LocalRequest.{LocalRequest}
use Rattle.portmap_operator.specs.declared.outcome.Outcome.{Outcome}
use Rattle.portmap_operator.specs.declared.outcome.Outcome.TheVariants as outcome

-- ---- replies

-- The second byte of a reply is `wanted`.
abbrev pub has_result : ℕ → List ℕ → Bool
has_result wanted [] = false
has_result wanted (result ∷ rest) = result == wanted

abbrev pub outcome_of_alive : List ℕ → Outcome
outcome_of_alive rest =
    if has_result 0 rest then outcome.Registered
    else if has_result 1 rest then outcome.InUse
    else if has_result 2 rest then outcome.NoRoom else outcome.Nothing

-- PORT2_RESP begins with 119, ALIVE2_X_RESP with 118, ALIVE2_RESP with 121, and a list with the highest byte of a port, 0
abbrev pub outcome_of_first : ℕ → List ℕ → Outcome
outcome_of_first first rest =
    if first == 119 then (if has_result 0 rest then outcome.Found else outcome.Missing)
    else if first == 118 || first == 121 then outcome_of_alive rest
    else if first == 0 then outcome.Listed else outcome.Nothing

-- The outcome of a chunk of a connection that waits for a request.
abbrev pub outcome_of_reply : List ℕ → Fate → Outcome
outcome_of_reply [] Close = outcome.Malformed
outcome_of_reply [] fate = outcome.Nothing
outcome_of_reply (first ∷ rest) fate = outcome_of_first first rest

-- Each reply to a look-up or a registration has the outcome that its result stands for.
pub record RepliesHaveOutcomes : Type 0 where
  pub found : (node : Node) (fate : Fate) → outcome_of_reply (port2_reply (Some node)) fate ≡ outcome.Found
  pub missing : (fate : Fate) → outcome_of_reply (port2_reply None) fate ≡ outcome.Missing
  pub registered : (high creation : ℕ) (fate : Fate) → outcome_of_reply (alive_reply high 0 creation) fate ≡ outcome.Registered
  pub in_use : (high creation : ℕ) (fate : Fate) → outcome_of_reply (alive_reply high 1 creation) fate ≡ outcome.InUse
  pub no_room : (high creation : ℕ) (fate : Fate) → outcome_of_reply (alive_reply high 2 creation) fate ≡ outcome.NoRoom

-- ---- slots

-- For each slot whether its peer is remote, or `None` once the connection in it has its reply or timed out.
abbrev pub States : Type 0
States = List (Option Bool)

-- A slot that is not known counts as that of a local peer.
abbrev pub state_at : States → ℕ → Option Bool
state_at states slot = slice_index_or states slot (Some false)

-- The wait for a request ends if the fate is `Close`.
abbrev pub ended : ℕ → Fate → States → States
ended slot Close states = slice_set states slot None
ended slot fate states = states

-- The states of the slots after an entry.
abbrev pub states_after : Entry → States → States
states_after (Connected local slot) states = slice_set states slot (Some (not local))
states_after (Piece slot bytes reply fate) states = ended slot fate states
states_after (Closed slot) states = slice_set states slot (Some false)
states_after (Faulted slot) states = slice_set states slot (Some false)
states_after (Late slot fate) states = ended slot fate states

-- A chunk of a remote peer is this request, and its connection is closed without a reply.
abbrev pub IsRefusedFrom : States → Entry → LocalRequest → Type 0
IsRefusedFrom states (Piece slot bytes reply fate) asked =
    (state_at states slot ≡ Some true) × (outcome_of_reply reply fate ≡ outcome.Malformed) × AsksFor bytes asked
IsRefusedFrom states entry asked = ⊥

-- ---- entries

abbrev pub unless_done : Option Bool → Outcome → Outcome
unless_done None is = outcome.Nothing
unless_done (Some remote) is = is

abbrev pub outcome_of_late : Fate → Outcome
outcome_of_late Close = outcome.TimedOut
outcome_of_late fate = outcome.Nothing

-- The outcome of an entry that refuses no request of a remote peer, by the states of the slots before it.
abbrev pub plain_outcome : States → Entry → Outcome
plain_outcome states (Connected local slot) = outcome.Accepted
plain_outcome states (Piece slot bytes reply fate) = unless_done (state_at states slot) (outcome_of_reply reply fate)
plain_outcome states (Closed slot) = outcome.Nothing
plain_outcome states (Faulted slot) = outcome.Nothing
plain_outcome states (Late slot fate) = unless_done (state_at states slot) (outcome_of_late fate)

-- The outcome of an entry, which may refuse a request of a remote peer.
abbrev pub outcome_in : States → Entry → Option LocalRequest → Outcome
outcome_in states entry None = plain_outcome states entry
outcome_in states entry (Some asked) = outcome.Remote
