use Rattle.std.proofs.Common.{◌≡◌}
use Rattle.portmap_worker.specs.IdleLinks.{Keeps}
use Rattle.portmap_worker.proofs.socket_source.SocketSource.scan_links.Given as goal

abbrev pub invariant-loop-key : goal.invariant-loop-key
invariant-loop-key g l = record { links : Keeps l.fn.self.links l.self.links; schedule : l.self.schedule ≡ l.fn.self.schedule }
