use Rattle.portmap_worker.specs.IdleLinks.{Keeps}
use Rattle.portmap_worker.proofs.sockets.Sockets.poll_all.Given as goal

abbrev pub invariant-loop : goal.invariant-loop
invariant-loop g l = Keeps l.fn.links l.links
