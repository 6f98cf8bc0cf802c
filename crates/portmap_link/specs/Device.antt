-- The effect of a call on a device.
use Rattle.std.specs.Io.KnownBytes.{Keeps, Consumes, Appends, IsAtEnd}
use Rattle.std.specs.Prelude.{ℕ, ◌<◌, ◌≤◌, List, length, take, Option, Bool, true, false}
use Rattle.portmap_link.specs.declared.device.Pull.{Pull, TheVariants.{End, Fault, Later, Piece}}
use Rattle.portmap_link.specs.declared.device.Put.{Put, TheVariants.{Fault as PutFault, Later as PutLater, Wrote}}

-- The effect of a pull with this result on the bytes left, if the call left `buffer`.
abbrev pub PullConsumes : Option (List ℕ) → Option (List ℕ) → Pull → List ℕ → Type 0
PullConsumes old new (Piece n) buffer = (0 < n) × (n ≤ length buffer) × Consumes old new (take n buffer)
PullConsumes old new End buffer = Keeps old new × IsAtEnd new
PullConsumes old new Later buffer = Keeps old new
PullConsumes old new Fault buffer = Keeps old new

-- The effect of a put of `bytes` with this result on the bytes written.
abbrev pub PutAppends : Option (List ℕ) → Option (List ℕ) → Put → List ℕ → Type 0
PutAppends old new (Wrote n) bytes = (0 < n) × (n ≤ length bytes) × Appends old new (take n bytes)
PutAppends old new PutLater bytes = Keeps old new
PutAppends old new PutFault bytes = Keeps old new

abbrev pub pull_is_fault : Pull → Bool
pull_is_fault (Piece n) = false
pull_is_fault End = false
pull_is_fault Later = false
pull_is_fault Fault = true

abbrev pub put_is_fault : Put → Bool
put_is_fault (Wrote n) = false
put_is_fault PutLater = false
put_is_fault PutFault = true
