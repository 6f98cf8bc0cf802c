use Rattle.portmap_feed.specs.Stream.{first_request}
use Rattle.portmap_core.proofs.Served.{responds_to_whole}
use Rattle.portmap_core.proofs.asked.RequestContext.respond.Goals as goal

pub returns-in-Some : goal.returns-in-Some
returns-in-Some c = responds_to_whole c.args.self.now c.args.feed.now c.in-Some.body.now
    (first_request c.args.feed.now) c.respond_to_body.result c.in-Some.ensures c.respond_to_body.ensures
