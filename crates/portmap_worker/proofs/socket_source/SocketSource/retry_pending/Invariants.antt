use Rattle.std.proofs.Common.{◌≡◌, None}
use Rattle.portmap_worker.specs.IdleLinks.{Keeps}
use Rattle.portmap_worker.proofs.socket_source.SocketSource.retry_pending.Given as goal

-- No link is current, all facts stay true, and no turn is counted.
abbrev pub invariant-loop-turn : goal.invariant-loop-turn
invariant-loop-turn g l = record {
  current : l.self.links.current ≡ None;
  links : Keeps l.fn.self.links l.self.links;
  schedule : l.self.schedule ≡ l.fn.self.schedule;
}
