-- The bytes that a peer gets over all calls of a carrier: profile.
use Rattle.std.specs.{List.flat_map, Prelude.{◌≡◌, ◌≢◌, ℕ, List, [], ◌∷◌, ◌++◌, All, Bool, true, false, Option, Some, None}}
use Rattle.portmap_core.specs.declared.event.Answer.{Answer}
use Rattle.portmap_book.specs.DeskCalls.{SaysTo}
use Rattle.portmap_link.specs.{Asking.Devices, Flush.Moves}
use Rattle.portmap_worker.specs.Carrying.{IsRead, added, bytes_of, fate_of, is_close}
use Rattle.portmap_worker.specs.declared.carrier.Next.{Next, TheVariants.NoMemory}

-- ---- one call

-- The part of a carrier that contracts see: the bytes that wait to be written, whether a close is due, and its link.
pub record Carried : Type 0 where
  pub out : List ℕ
  pub due : Bool
  pub link : Devices

abbrev pub carried : List ℕ → Bool → Devices → Carried
carried out due link = record { out = out; due = due; link = link }

-- The desk answered the chunk of one pull. The waiting bytes and the reply were written as far as the link took them.
pub record IsAnswered (slot : ℕ) (answer : Answer) (next : Next) (old new : Carried) : Type 0 where
  pub piece : List ℕ
  pub read : IsRead old.link new.link piece
  pub says : SaysTo slot piece answer
  pub not_due : old.due ≡ false
  pub due : new.due ≡ is_close (fate_of answer)
  pub writes : Moves old.link.held new.link.held (old.out ++ added answer next) new.out

-- The waiting bytes were written as far as the link took them, and nothing else was written.
pub record IsFlushed (old new : Carried) : Type 0 where
  pub due : new.due ≡ old.due
  pub writes : Moves old.link.held new.link.held old.out new.out

-- The effect of a call, by the position and the answer of the desk, if there is one, and by what is next.
abbrev pub Does : ℕ → Option (ℕ × Answer) → Next → Carried → Carried → Type 0
Does slot None next old new = IsFlushed old new
Does slot (Some acted) next old new = IsAnswered slot acted.1 next old new

-- ---- any calls, one after another

abbrev pub Returned : Type 0
Returned = Option (ℕ × Answer) × Next

-- The calls happen in this order, with these results. A call at which memory ran out is the last: the connection is closed.
abbrev pub Runs : ℕ → List Returned → Carried → Carried → Type 0
Runs slot [] old new = new ≡ old
Runs slot (call ∷ calls) old new =
    (mid : Carried) × Does slot call.0 call.1 old mid × (call.1 ≡ NoMemory → calls ≡ []) × Runs slot calls mid new

abbrev pub reply_of : Option (ℕ × Answer) → List ℕ
reply_of None = []
reply_of (Some acted) = bytes_of acted.1

abbrev pub replies : List Returned → List ℕ
replies calls = flat_map (λ call. reply_of call.0) calls

-- The written bytes and the bytes that wait are a prefix of what waited before and the replies. They are all of it, unless memory ran out.
pub record AreWritten (calls : List Returned) (old new : Carried) : Type 0 where
  pub lost : List ℕ
  pub writes : Moves old.link.held new.link.held (old.out ++ replies calls) (new.out ++ lost)
  pub all : All (λ call. call.1 ≢ NoMemory) calls → lost ≡ []

abbrev pub OnlyAnswersAreWritten : Type 0
OnlyAnswersAreWritten =
    (slot : ℕ) (calls : List Returned) (old new : Carried) → Runs slot calls old new → AreWritten calls old new

-- Once a close is due, the desk answers nothing more.
abbrev pub ClosesAreFinal : Type 0
ClosesAreFinal = (slot : ℕ) (calls : List Returned) (old new : Carried) → Runs slot calls old new → old.due ≡ true
    → All (λ call. call.0 ≡ None) calls
