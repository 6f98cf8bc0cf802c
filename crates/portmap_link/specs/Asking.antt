-- Repeated calls of a device, and their number.
use Rattle.std.specs.{Io.KnownBytes.{Keeps, IsAtEnd}, List.AllByRecursion}
use Rattle.std.specs.Prelude.{◌≡◌, ℕ, ◌+◌, ◌≤◌, Bool, true, false, List, [], ◌∷◌, ◌++◌, length, Option}
use Rattle.portmap_link.specs.declared.device.Pull.{Pull}
use Rattle.portmap_link.specs.declared.device.Pull.TheVariants.{End, Fault as PullFault, Later as PullLater, Piece}
use Rattle.portmap_link.specs.declared.device.Put.{Put, TheVariants.{Fault as PutFault, Later as PutLater, Wrote}}

-- After this result the input is pulled again.
abbrev pub IsAskedAgain : Pull → Type 0
IsAskedAgain (Piece n) = Unit {0}
IsAskedAgain End = ⊥
IsAskedAgain PullLater = Unit {0}
IsAskedAgain PullFault = ⊥

-- After this result the output is offered bytes again.
abbrev pub IsPutAgain : Put → Type 0
IsPutAgain (Wrote n) = Unit {0}
IsPutAgain PutLater = Unit {0}
IsPutAgain PutFault = ⊥

abbrev pub is_pull_later : Pull → Bool
is_pull_later (Piece n) = false
is_pull_later End = false
is_pull_later PullLater = true
is_pull_later PullFault = false

abbrev pub is_put_later : Put → Bool
is_put_later (Wrote n) = false
is_put_later PutLater = true
is_put_later PutFault = false

-- Results were added, and each of them allows another call.
pub record GoesOn {A : Type 0} (IsAgain : A → Type 0) (old new : List A) : Type 0 where
  pub added : List A
  pub grows : new ≡ old ++ added
  pub again : AllByRecursion IsAgain added

-- The last pull of a call reported the end of the input, and no earlier pull did. The bytes left agree with it.
pub record IsEnded (left : Option (List ℕ)) (old new : List Pull) : Type 0 where
  pub at_end : IsAtEnd left
  pub before : List Pull
  pub goes_on : GoesOn IsAskedAgain old before
  pub last : new ≡ before ++ End ∷ []

-- The model of an input and an output: bytes left, bytes written, and the results of all pulls and puts.
pub record Devices : Type 0 where
  pub left : Option (List ℕ)
  pub held : Option (List ℕ)
  pub pulls : List Pull
  pub puts : List Put

abbrev pub devices : {R W : Type 0} → (R → Option (List ℕ)) → (W → Option (List ℕ)) → (R → List Pull) → (W → List Put) → R → W → Devices
devices left held pulls puts input output = record { left = left input; held = held output; pulls = pulls input; puts = puts output }

-- The output was offered nothing.
abbrev pub WritesNothing : Devices → Devices → Type 0
WritesNothing old new = Keeps old.held new.held × (new.puts ≡ old.puts)

-- A call made at most `turns` pulls and puts, and exactly `turns` if it ended because another was due.
pub record MakesTurns {X : Type 0} (turns : ℕ) (old new : Devices) (ended : X) (too_many : ℕ → X) : Type 0 where
  pub most : length new.pulls + length new.puts ≤ length old.pulls + length old.puts + turns
  pub all : (sent : ℕ) → ended ≡ too_many sent → length new.pulls + length new.puts ≡ length old.pulls + length old.puts + turns
