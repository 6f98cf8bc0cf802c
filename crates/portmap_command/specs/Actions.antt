-- What the command's actions do: profile, since epmd(1) has no such actions.
use Rattle.std.specs.Prelude.{◌≡◌, ℕ, List, Bool, true, false, Option, Result, Ok, Err, ◌⊎◌}
use Rattle.portmap_core.specs.Config.{Configuration}
use Rattle.portmap_link.specs.{declared.adapters.writer.Writing.Writing, declared.single.OnceFault.OnceFault}
use Rattle.portmap_link.specs.declared.single.OnceFault.TheVariants as once
use Rattle.portmap_record.specs.{Transcript.verdict_line, declared.playing.PlayFault.PlayFault, declared.playing.Text.Text}
use Rattle.portmap_record.specs.declared.verdict.Verdict.{Verdict, TheVariants.{Broken, Run}}
use Rattle.portmap_record.specs.declared.playing.PlayFault.TheVariants as play
use Rattle.portmap_record.specs.declared.playing.Text.TheVariants as text
use Rattle.portmap_command.specs.{Errors.IsPrinted, declared.actions.Failure.Failure}
use Rattle.portmap_command.specs.declared.actions.Failure.TheVariants.{BadRecord, Device, KillRefused, Memory, NoConnection}
use Rattle.portmap_command.specs.declared.actions.Failure.TheVariants.{Polling, StopRefused, StrangeAnswer}
use Rattle.portmap_command.specs.declared.words.Action.{Action, TheVariants.{Audit, Serve}}
use Rattle.portmap_command.specs.declared.actions.TheConstants as the

-- ---- failures

abbrev pub status_of : Failure → ℕ
status_of BadRecord = the.REFUSED
status_of Device = the.FAILED
status_of Polling = the.FAILED
status_of Memory = the.FAILED
status_of failure = the.NOT_DONE

abbrev pub line_of : Failure → List ℕ
line_of BadRecord = the.BAD_RECORD.now
line_of Device = the.DEVICE_FAILED.now
line_of Polling = the.POLLING_FAILED.now
line_of Memory = the.MEMORY_RAN_OUT.now
line_of NoConnection = the.NO_CONNECTION.now
line_of StrangeAnswer = the.STRANGE_ANSWER.now
line_of KillRefused = the.KILL_REFUSED.now
line_of StopRefused = the.STOP_REFUSED.now

abbrev pub failure_of_once : OnceFault → Failure
failure_of_once once.NoMemory = Memory
failure_of_once fault = Device

abbrev pub failure_of_play : PlayFault → Failure
failure_of_play play.NoMemory = Memory
failure_of_play (play.Bad fault) = BadRecord
failure_of_play play.RemoteOpen = BadRecord
failure_of_play fault = Device

-- Errors get the line of the failure between `old` and `new`.
abbrev pub Fails : {E : Type 0} → (E → Option (List ℕ)) → Writing E → Writing E → Failure → Type 0
Fails contents old new failure = IsPrinted contents (line_of failure) old new

-- ---- how an action ends

-- The output was flushed, the status is `printed` and errors are `quiet`. Or it failed to flush, and errors get that failure.
abbrev pub Passes : ℕ → ℕ → Bool → Type 0 → (Failure → Type 0) → Type 0
Passes printed status broken quiet fails = ((status ≡ printed) × (broken ≡ false) × quiet)
    ⊎ ((status ≡ the.FAILED) × (broken ≡ true) × fails Device)

-- The status of a result, whether its output is broken, and what errors get. `printed` gives the status of an answer, and `failure` the
-- failure of a fault.
abbrev pub EndsWith : {X Fault : Type 0} → (X → ℕ) → (Fault → Failure) → ℕ → Result X Fault → Bool → (X → Type 0) → (Failure → Type 0)
    → Type 0
EndsWith printed failure status (Ok x) broken quiet fails = Passes (printed x) status broken (quiet x) fails
EndsWith printed failure status (Err fault) broken quiet fails = (status ≡ status_of (failure fault)) × fails (failure fault)

-- ---- one connection

abbrev pub once_config : Configuration
once_config = record { port = the.PORT; relaxed = false; conn_max = the.CONNECTIONS_MOST; known_max = the.NAMES_MOST }

-- ---- a recorded session

-- A status at which errors get nothing. Only the text without remote peers cannot itself say that a session is not a run.
abbrev pub IsSilent : Text → ℕ → Type 0
IsSilent text.LocalRecord status = status ≡ the.DONE
IsSilent text status = (status ≡ the.DONE) ⊎ (status ≡ the.NOT_DONE)

-- If the action ends with status 0, errors get nothing.
abbrev pub IsQuiet : Action → Type 0
IsQuiet Serve = ⊥
IsQuiet (Audit path) = ⊥
IsQuiet action = Unit {0}

abbrev pub status_of_found : Verdict → ℕ
status_of_found Run = the.DONE
status_of_found (Broken at) = the.NOT_DONE

-- What errors get for a verdict. Only the text without remote peers leaves a session that is not a run to errors.
abbrev pub PrintsErrors : {E : Type 0} → Text → (E → Option (List ℕ)) → Writing E → Writing E → Verdict → Type 0
PrintsErrors text.LocalRecord contents old new (Broken at) = IsPrinted contents (verdict_line 0 (Broken at)) old new
PrintsErrors text contents old new found = new ≡ old
