use Rattle.std.proofs.Common.{refl, ap}
use Rattle.portmap_scheduler.specs.declared.LinkState.TheVariants.{Pending}
use Rattle.portmap_worker.proofs.Idle.{placed, seen}
use Rattle.portmap_worker.specs.IdleLinks.{Holds}
use Rattle.portmap_worker.proofs.socket_source.SocketSource.defer_request.Goals as goal

pub returns-clause-links : goal.returns-clause-links
returns-clause-links g c = λ fact h.
    let before : Holds fact c.refuses.new.self.links = rw c.refuses.ensures.links (c.watch.ensures.links fact h) in
    placed Pending c.in_ok-key.key _ c.refuses.new.self.links _ (ap seen c.hold.ensures) (λ v. refl) fact before
