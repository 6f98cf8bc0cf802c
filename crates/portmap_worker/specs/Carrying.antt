-- The effect of a worker's calls on a connection that it holds: profile.
use Rattle.std.specs.Io.KnownBytes.{Consumes}
use Rattle.std.specs.Prelude.{◌≡◌, ◌≢◌, ℕ, ◌≤◌, List, [], ◌∷◌, ◌++◌, length, Bool, true, false, Ok, Err, ◌⊎◌}
use Rattle.portmap_core.specs.{declared.event.Answer.Answer, declared.event.Fate.Fate}
use Rattle.portmap_core.specs.declared.event.Answer.TheVariants as answer
use Rattle.portmap_core.specs.declared.event.Event.TheVariants as event
use Rattle.portmap_core.specs.declared.event.Fate.TheVariants as fate
use Rattle.portmap_core.specs.declared.event.Refusal.TheVariants as refusal
use Rattle.portmap_book.specs.{Seat.{SeatView, Counts}, declared.book.ActFault.{ActFault, TheVariants.{Refused}}}
use Rattle.portmap_link.specs.{Asking.Devices, Flush.LastPut, declared.device.Pull.Pull, declared.device.Put.Put}
use Rattle.portmap_link.specs.declared.outbox.Flush.{Flush}
use Rattle.portmap_link.specs.declared.device.Pull.TheVariants as pull
use Rattle.portmap_link.specs.declared.device.Put.TheVariants as put
use Rattle.portmap_link.specs.declared.outbox.Flush.TheVariants as flush
use Rattle.portmap_worker.specs.declared.carrier.Next.{Next, TheVariants.{Close, Fault, Halt, Keep, NoMemory}}
use Rattle.portmap_worker.specs.declared.limits.TheConstants.{PULL_BYTES_MOST}

-- ---- one pull

-- The only pull of a call returned this chunk.
pub record IsRead (old new : Devices) (piece : List ℕ) : Type 0 where
  pub consumed : Consumes old.left new.left piece
  pub pulled : new.pulls ≡ old.pulls ++ pull.Piece (length piece) ∷ []
  pub few : length piece ≤ PULL_BYTES_MOST

-- The only pull of a call had this answer.
abbrev pub Pulls : Pull → Devices → Devices → Type 0
Pulls returned old new = new.pulls ≡ old.pulls ++ returned ∷ []

abbrev pub PullsNothing : Devices → Devices → Type 0
PullsNothing old new = new.pulls ≡ old.pulls

-- ---- the end of a write

-- A write ended so, by the last put of the call, or because no byte waits.
abbrev pub WritingEnds : Flush → List Put → List Put → List ℕ → Type 0
WritingEnds flush.Empty old new waiting = waiting ≡ []
WritingEnds flush.Later old new waiting = (waiting ≢ []) × LastPut old new put.Later
WritingEnds flush.Fault old new waiting = LastPut old new put.Fault

-- ---- a chunk that was answered

-- The bytes of the reply in an answer.
abbrev pub bytes_of : Answer → List ℕ
bytes_of (answer.Connected slot) = []
bytes_of (answer.Said bytes becomes) = bytes.items
bytes_of answer.Gone = []

-- The fate of the connection after an answer.
abbrev pub fate_of : Answer → Fate
fate_of (answer.Connected slot) = fate.Stay
fate_of (answer.Said bytes becomes) = becomes
fate_of answer.Gone = fate.Close

-- The connection is to be closed once all is written.
abbrev pub is_close : Fate → Bool
is_close fate.Close = true
is_close becomes = false

-- The bytes of the reply that are to be written: none if there was no room for them.
abbrev pub added : Answer → Next → List ℕ
added acted NoMemory = []
added acted next = bytes_of acted

-- The next step if there was room for the reply, by the fate of the connection and the end of the write.
abbrev pub next_after : Fate → Flush → Next
next_after fate.Halt ended = Halt
next_after becomes flush.Fault = Fault
next_after fate.Close flush.Empty = Close
next_after becomes ended = Keep

-- The next step after an answer.
abbrev pub FollowsAnswer : Answer → List Put → List Put → List ℕ → Next → Type 0
FollowsAnswer acted old new waiting next =
    (next ≡ NoMemory) ⊎ ((ended : Flush) × WritingEnds ended old new waiting × (next ≡ next_after (fate_of acted) ended))

-- ---- no chunk, or a chunk that was refused

-- The next step after a refusal.
abbrev pub next_of : ActFault → Next
next_of (Refused refusal.Halted) = Halt
next_of (Refused refusal.NoMemory) = NoMemory
next_of fault = Close

-- The only pull returned a chunk, whose refusal leads to this next step.
abbrev pub Refuses : Next → Devices → Devices → Type 0
Refuses next old new = (n : ℕ) × (fault : ActFault) × Pulls (pull.Piece n) old new × (next ≡ next_of fault)

-- The waiting bytes were offered first: none is left, or the last put answered Later.
abbrev pub OffersFirst : Devices → Devices → List ℕ → Type 0
OffersFirst old new waiting = WritingEnds flush.Empty old.puts new.puts waiting ⊎ WritingEnds flush.Later old.puts new.puts waiting

-- The next step without an answer, by whether a close was due.
abbrev pub FollowsNothing : Bool → Devices → Devices → List ℕ → Next → Type 0
FollowsNothing true old new waiting Keep = PullsNothing old new × WritingEnds flush.Later old.puts new.puts waiting
FollowsNothing true old new waiting Close = PullsNothing old new × WritingEnds flush.Empty old.puts new.puts waiting
FollowsNothing true old new waiting Fault = PullsNothing old new × WritingEnds flush.Fault old.puts new.puts waiting
FollowsNothing true old new waiting next = ⊥
FollowsNothing false old new waiting Keep = OffersFirst old new waiting × Pulls pull.Later old new
FollowsNothing false old new waiting Close = OffersFirst old new waiting × (Pulls pull.End old new ⊎ Refuses Close old new)
FollowsNothing false old new waiting Fault = (PullsNothing old new × WritingEnds flush.Fault old.puts new.puts waiting)
    ⊎ (OffersFirst old new waiting × Pulls pull.Fault old new)
FollowsNothing false old new waiting Halt = OffersFirst old new waiting × Refuses Halt old new
FollowsNothing false old new waiting NoMemory = OffersFirst old new waiting × Refuses NoMemory old new

-- ---- a timeout

-- The desk got the timeout of the connection in a slot, and its answer or refusal leads to the next step.
abbrev pub IsLate : ℕ → SeatView → SeatView → Next → Type 0
IsLate slot old new next =
    ((acted : ℕ × Answer) × Counts (event.Late slot) old new (Ok acted) × (next ≡ next_after (fate_of acted.1) flush.Empty))
    ⊎ ((fault : ActFault) × Counts (event.Late slot) old new (Err fault) × (next ≡ next_of fault))

-- ---- connections of a worker

-- The connection is no longer held.
abbrev pub LetsGo : Next → Type 0
LetsGo Keep = ⊥
LetsGo Halt = ⊥
LetsGo next = Unit {0}
