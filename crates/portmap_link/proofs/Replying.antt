-- A request was read, and its reply was written in part.
use Rattle.std.specs.Io.KnownBytes.{Appends}
use Rattle.std.proofs.Common.{◌≡◌, ℕ, ◌<◌, List, length, take, Err, inl, refl}
use Rattle.portmap_core.specs.{Config.Configuration, declared.event.Fate.Fate}
use Rattle.portmap_link.specs.{Asking.{Devices, GoesOn, IsPutAgain}, Once.{IsHeard, RepliesInPart, WritesReply, Did}}
use Rattle.portmap_link.specs.declared.single.OnceFault.{OnceFault}
use Rattle.portmap_link.specs.declared.single.OnceFault.TheVariants.{NoMemory, ReadFault, TooManyTurns, WriteFault}

in_part : (cfg : Configuration) (old new : Devices) (reply : List ℕ) (fate : Fate) (sent : ℕ)
    → IsHeard cfg old.left new.left old.pulls new.pulls reply fate → sent < length reply → Appends old.held new.held (take sent reply)
    → RepliesInPart cfg old new sent
in_part cfg old new reply fate sent heard rest writes = record {
  fate = fate;
  replies = record { read = heard.read; reply = reply; reads = heard.reads; just = heard.just; hears = heard.hears; writes = writes };
  rest = rest;
}

pub did_part : (cfg : Configuration) (old new : Devices) (reply : List ℕ) (fate : Fate) (fault : OnceFault)
    → IsHeard cfg old.left new.left old.pulls new.pulls reply fate → WritesReply reply old.held new.held (Err fault)
    → ((sent : ℕ) → fault ≡ TooManyTurns sent → GoesOn IsPutAgain old.puts new.puts) → Did cfg old new (Err fault)
did_part cfg old new reply fate ReadFault heard outcome due = absurd outcome
did_part cfg old new reply fate NoMemory heard outcome due = absurd outcome
did_part cfg old new reply fate (WriteFault sent) heard outcome due = in_part cfg old new reply fate sent heard outcome.0 outcome.1
did_part cfg old new reply fate (TooManyTurns sent) heard outcome due =
    inl (in_part cfg old new reply fate sent heard outcome.0 outcome.1, due sent refl)
