-- The health check: its steps, its end, and what is printed. Profile: epmd(1) has no such command.
use Rattle.std.specs.{Fmt.decimal, List.concat}
use Rattle.std.specs.Prelude.{◌≡◌, ◌≢◌, ◌⊎◌, ℕ, ◌<◌, zero, suc, Bool, true, false, not, List, [], ◌∷◌, ◌++◌, ◌%◌, codes}
use Rattle.std.specs.Prelude.{Option, Some, None, Result, Ok, Err}
use Rattle.portmap_wire.specs.Node.{Node, are_same}
use Rattle.portmap_link.specs.declared.adapters.writer.Writing.{Writing}
use Rattle.portmap_client.specs.declared.fault.ClientFault.{ClientFault, TheVariants.Refused}
use Rattle.portmap_command.specs.{Actions.line_of, Commands.failure_of_client, Errors.IsPrinted}
use Rattle.portmap_command.specs.declared.actions.Failure.{Failure, TheVariants.{Memory, NoConnection}}
use Rattle.portmap_command.specs.declared.actions.TheConstants.{DONE, FAILED, NOT_DONE}
use Rattle.portmap_command.specs.declared.health.Step.{Step, TheVariants.{Close, LookUp, Pause, Register}}
use Rattle.portmap_command.specs.declared.health.TheConstants.{NAMES, TRIES}

-- A node that a check registers: hidden, at a port where nothing listens, of versions 5 to 6, and with one of a few names.
abbrev pub health_node : ℕ → Node
health_node number = record {
  port = 1;
  kind = 72;
  proto = 0;
  high = 6;
  low = 5;
  name = codes "epmd-health-" ++ decimal (number % NAMES);
  extra = [];
}

-- ---- outcomes of steps

-- A step with its outcome: whether the node is registered or found, or why there is no answer.
abbrev pub Made : Type 0
Made = Step × Result Bool Failure

-- The outcome of a registration, by the result of the client's call.
abbrev pub registration_outcome : Result ℕ ClientFault → Result Bool Failure
registration_outcome (Ok creation) = Ok true
registration_outcome (Err (Refused code)) = Ok false
registration_outcome (Err fault) = Err (failure_of_client fault)

-- The outcome of a registration, by the result of `register`.
abbrev pub is_granted : {X : Type 0} → Result (Option X) Failure → Result Bool Failure
is_granted (Ok (Some held)) = Ok true
is_granted (Ok None) = Ok false
is_granted (Err failure) = Err failure

-- The outcome of a look-up of this node. Another node of its name is not this node.
abbrev pub look_up_outcome : Node → Result (Option Node) ClientFault → Result Bool Failure
look_up_outcome node (Ok (Some found)) = Ok (are_same found node)
look_up_outcome node (Ok None) = Ok false
look_up_outcome node (Err fault) = Err (failure_of_client fault)

-- ---- how a check ends

-- The steps that `new` has after those of `old` satisfy `Holds`.
abbrev pub Grows : (List Made → Type 0) → List Made → List Made → Type 0
Grows Holds old new = (made : List Made) × (new ≡ old ++ made) × Holds made

-- A step with this answer, `n` times, each time with a pause after it.
abbrev pub missed : Step → Bool → ℕ → List Made
missed step is zero = []
missed step is (suc n) = (step, Ok is) ∷ (Pause, Ok true) ∷ missed step is n

-- A step was tried, at most `most` times, until its outcome was `last`: not the unwanted answer, unless all tries were used.
pub record Tries (step : Step) (unwanted : Bool) (most : ℕ) (last : Result Bool Failure) (made : List Made) : Type 0 where
  pub count : ℕ
  pub few : count < most
  pub are : made ≡ missed step unwanted count ++ (step, last) ∷ []
  pub exhausted : last ≡ Ok unwanted → suc count ≡ most

-- A step with its wanted answer and its limit of tries ends with this result: it has that answer, or it is the last step.
abbrev pub Makes : Step × Bool × ℕ → Result Unit Made → List Made → Type 0
Makes (step, wanted, most) (Ok passed) made = Tries step (not wanted) most (Ok wanted) made
Makes (step, wanted, most) (Err last) made = (last.0 ≡ step) × (last.1 ≢ Ok wanted) × Tries step (not wanted) most last.1 made

-- The steps of a check in their order, each with its wanted answer and its limit of tries.
abbrev pub plan : List (Step × Bool × ℕ)
plan = (Register, true, TRIES) ∷ (LookUp, true, 1) ∷ (Close, true, 1) ∷ (LookUp, false, TRIES) ∷ []

-- The steps are made in their order, up to the first step without its wanted answer.
abbrev pub Ends : List (Step × Bool × ℕ) → Result Unit Made → List Made → Type 0
Ends [] result made = (result ≡ Ok tt) × (made ≡ [])
Ends (step ∷ steps) result made = ((last : Made) × (result ≡ Err last) × Makes step (Err last) made)
    ⊎ ((first rest : List Made) × Makes step (Ok tt) first × Ends steps result rest × (made ≡ first ++ rest))

-- ---- what is printed

-- The last step and the address of the check that fails, by the results at 127.0.0.1 and, if the host has it, at ::1.
abbrev pub failing : Result Unit Made → Bool → Result Unit Made → Option (Made × List ℕ)
failing (Err last) has_ipv6 six = Some (last, codes "127.0.0.1:")
failing (Ok passed) true (Err last) = Some (last, codes "[::1]:")
failing (Ok passed) has_ipv6 six = None

abbrev pub text_of : Step → Result Bool Failure → List ℕ
text_of step (Err NoConnection) = codes "epmd: cannot connect to "
text_of step (Err failure) = codes "epmd: strange answer from "
text_of Register (Ok is) = codes "epmd: cannot register epmd-health at "
text_of step (Ok false) = codes "epmd: cannot find epmd-health at "
text_of step (Ok true) = codes "epmd: cannot free epmd-health at "

-- The line of a check that ends with this step.
abbrev pub line_of_health : Made → List ℕ → ℕ → List ℕ
line_of_health (step, Err Memory) address port = line_of Memory
line_of_health (step, outcome) address port = concat (text_of step outcome ∷ address ∷ decimal port ∷ codes "\n" ∷ [])

abbrev pub status_of_health : Result Bool Failure → ℕ
status_of_health (Err Memory) = FAILED
status_of_health outcome = NOT_DONE

abbrev pub PrintsHealth : {E : Type 0} → Option (Made × List ℕ) → ℕ → ℕ → (E → Option (List ℕ)) → Writing E → Writing E → Type 0
PrintsHealth None port status contents old new = (status ≡ DONE) × (new ≡ old)
PrintsHealth (Some failed) port status contents old new = (status ≡ status_of_health failed.0.1)
    × IsPrinted contents (line_of_health failed.0 failed.1 port) old new
