-- The source's knowledge of a connection: profile.
use Rattle.portmap_link.specs.declared.device.Put.{Put, TheVariants.{Fault, Wrote}}
use Rattle.portmap_link.specs.declared.device.Put.TheVariants as put
use Rattle.std.specs.IoError.{error_kind}
use Rattle.std.specs.Prelude.{ℕ, ◌-◌, ◌≤◌, Bool, true, false, not, ◌||◌, Option, Some, None, Result, Ok, Err, ◌≡◌}
use Rattle.std.specs.declared.io.Error.{Error}
use Rattle.std.specs.declared.io.ErrorKind.{ErrorKind}
use Rattle.std.specs.declared.io.ErrorKind.TheVariants as kind
use Rattle.portmap_worker.specs.declared.link.ReplyProgress.{ReplyProgress, TheVariants.{Asked}}
use Rattle.portmap_worker.specs.declared.readiness.Reading.{Reading, TheVariants.{Dry, Open}}
use Rattle.portmap_worker.specs.declared.readiness.Writing.{Writing, TheVariants.{CutShort, Free, Waits}}
use Rattle.portmap_worker.specs.declared.source.Turn.{Turn, TheVariants.{Late, Ready}}
use Rattle.portmap_worker.specs.declared.system.Interest.{Interest}
use Rattle.portmap_worker.specs.declared.system.Interest.TheVariants as interest

-- A call may do more than answer Later. Bytes that wait to be written go first.
abbrev pub may_move : Reading → Writing → Bool
may_move reading CutShort = true
may_move reading Waits = false
may_move Open Free = true
may_move Dry Free = false

abbrev pub is_unsent : Writing → Bool
is_unsent Free = false
is_unsent writing = true

-- Bytes of a reply were ever written.
abbrev pub is_answered : ReplyProgress → Bool
is_answered Asked = false
is_answered progress = true

-- A timeout applies: no byte of a reply was ever written, or bytes wait to be written. The owner of a name that has read its reply has no
-- timeout.
abbrev pub is_timed : ReplyProgress → Writing → Bool
is_timed progress writing = not (is_answered progress) || is_unsent writing

-- The number of bytes that wait to be written, after a put of `offered` bytes with this answer.
abbrev pub unsent_after : Put → ℕ → ℕ
unsent_after (Wrote n) offered = offered - n
unsent_after put.Later offered = offered
unsent_after Fault offered = 0

-- The interest that the poll has to watch.
abbrev pub wanted : Writing → Interest
wanted Free = interest.Reading
wanted writing = interest.Both

-- The time that began at `since` is over at `then_`.
abbrev pub IsOver : Option ℕ → ℕ → ℕ → Type 0
IsOver (Some since) then_ timeout = timeout ≤ then_ - since
IsOver None then_ timeout = ⊥

-- The turn is `Ready` or `Late` for the link with this key.
abbrev pub IsOf : Option ℕ → Turn → Type 0
IsOf key (Ready k) = key ≡ Some k
IsOf key (Late k) = key ≡ Some k
IsOf key turn = ⊥

-- The call failed with `BrokenPipe`.
abbrev pub IsBroken : Result ℕ Error → Type 0
IsBroken (Ok n) = ⊥
IsBroken (Err e) = error_kind e ≡ kind.BrokenPipe

abbrev pub is_would_block : ErrorKind → Bool
is_would_block kind.WouldBlock = true
is_would_block _ = false

-- The call would have blocked.
abbrev pub would_block : Result ℕ Error → Bool
would_block (Ok n) = false
would_block (Err e) = is_would_block (error_kind e)
