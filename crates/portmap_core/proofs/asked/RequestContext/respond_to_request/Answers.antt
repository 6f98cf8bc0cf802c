use Rattle.portmap_wire.specs.declared.request.Request.TheVariants.{Alive}
use Rattle.portmap_core.proofs.Served.{near}
use Rattle.portmap_core.proofs.asked.RequestContext.respond_to_request.Goals as goal

pub returns-in-Alive : goal.returns-in-Alive
returns-in-Alive c = rw c.in-Alive.is (near c.args.self.now (Alive c.in-Alive.reg) c.alive.result c.if-self-4.true c.alive.ensures)
