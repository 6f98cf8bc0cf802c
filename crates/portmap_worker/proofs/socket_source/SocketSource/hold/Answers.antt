use Rattle.portmap_worker.proofs.Idle.{after_insert, refused}
use Rattle.portmap_worker.proofs.socket_source.SocketSource.hold.Goals as goal

pub returns-clause-links : goal.returns-clause-links
returns-clause-links g c =
    after_insert _ c.args.self.now.links _ _ (rw c.in-Ok.is at c.insert.ensures.fresh) (rw c.in-Ok.is at c.insert.ensures.inserted)

pub returns-in_default-clause-links : goal.returns-in_default-clause-links
returns-in_default-clause-links g c = refused c.args.self.now.links _ (rw c.in_default.is at c.insert.ensures.err)
