use Rattle.portmap_core.proofs.Served.{responds_to_spelled}
use Rattle.portmap_core.proofs.asked.RequestContext.respond_to_body.Goals as goal

pub returns-in-Ok : goal.returns-in-Ok
returns-in-Ok c =
    responds_to_spelled c.args.self.now c.args.body.now c.in-Ok.request c.respond_to_request.result c.in-Ok.ensures.found
    c.respond_to_request.ensures
