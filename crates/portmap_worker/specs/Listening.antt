-- New connections, and listening sockets at which no connection could be accepted.
use Rattle.std.specs.{Prelude.{◌≡◌, Bool}, declared.io.ErrorKind.ErrorKind}
use Rattle.std.specs.declared.io.ErrorKind.TheVariants as kind
use Rattle.portmap_worker.specs.declared.listener.AcceptError.{AcceptError}
use Rattle.portmap_worker.specs.declared.listener.AcceptError.TheVariants.{Aborted, Exhausted, WouldBlock}
use Rattle.portmap_worker.specs.declared.source.Turn.{Turn, TheVariants.{Fresh}}

-- A connection arrived, from this host or from a remote peer.
abbrev pub IsFreshFrom : Bool → Turn → Type 0
IsFreshFrom is_local (Fresh key local) = local ≡ is_local
IsFreshFrom is_local turn = ⊥

-- The reason for which no connection could be accepted, by the kind of the error.
abbrev pub accept_error : ErrorKind → AcceptError
accept_error kind.ConnectionAborted = Aborted
accept_error kind.Interrupted = Aborted
accept_error kind.WouldBlock = WouldBlock
accept_error _ = Exhausted
