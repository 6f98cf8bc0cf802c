-- Devices over the readers and writers of the standard library.
use Rattle.std.specs.IoError.{error_kind}
use Rattle.std.specs.Prelude.{ℕ, Bool, true, false, ◌==◌, if◌then◌else◌, Result, Ok, Err, List, Option}
use Rattle.std.specs.{declared.io.Error.Error, declared.io.ErrorKind.{ErrorKind, TheVariants.{Interrupted, WouldBlock}}}
use Rattle.portmap_link.specs.{Asking.Devices, declared.adapters.reader.Reading.Reading}
use Rattle.portmap_link.specs.{declared.adapters.stream.Both.Both, declared.adapters.writer.Writing.Writing}
use Rattle.portmap_link.specs.declared.device.Pull.{Pull, TheVariants.{End, Fault, Later, Piece}}
use Rattle.portmap_link.specs.declared.device.Put.{Put, TheVariants.{Fault as PutFault, Later as PutLater, Wrote}}

-- An error of this kind only asks for another call.
abbrev pub is_passing : ErrorKind → Bool
is_passing Interrupted = true
is_passing WouldBlock = true
is_passing kind = false

-- The result of a pull, from the result of a read into a buffer with room.
abbrev pub pull_of : Result ℕ Error → Pull
pull_of (Ok n) = if n == 0 then End else Piece n
pull_of (Err e) = if is_passing (error_kind e) then Later else Fault

-- The result of a put, from the result of a write of at least one byte.
abbrev pub put_of : Result ℕ Error → Put
put_of (Ok n) = if n == 0 then PutFault else Wrote n
put_of (Err e) = if is_passing (error_kind e) then PutLater else PutFault

abbrev pub reading_inner : {R : Type 0} → Reading R → R
reading_inner r = r.inner

abbrev pub reading_pulls : {R : Type 0} → Reading R → List Pull
reading_pulls r = r.pulls

abbrev pub reading_broken : {R : Type 0} → Reading R → Bool
reading_broken r = r.failed

abbrev pub writing_inner : {W : Type 0} → Writing W → W
writing_inner w = w.inner

abbrev pub writing_puts : {W : Type 0} → Writing W → List Put
writing_puts w = w.puts

abbrev pub writing_broken : {W : Type 0} → Writing W → Bool
writing_broken w = w.failed

abbrev pub both_inner : {S : Type 0} → Both S → S
both_inner b = b.inner

abbrev pub both_pulls : {S : Type 0} → Both S → List Pull
both_pulls b = b.pulls

abbrev pub both_puts : {S : Type 0} → Both S → List Put
both_puts b = b.puts

abbrev pub both_broken : {S : Type 0} → Both S → Bool
both_broken b = b.failed

-- The model of a reader and a writer together.
abbrev pub streams : {R W : Type 0} → (R → Option (List ℕ)) → (W → Option (List ℕ)) → Reading R → Writing W → Devices
streams remaining contents input output =
    record { left = remaining input.inner; held = contents output.inner; pulls = input.pulls; puts = output.puts }
