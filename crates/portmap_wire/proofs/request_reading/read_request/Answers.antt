use Rattle.std.proofs.Common.{arith}
use Rattle.portmap_wire.proofs.RequestLaws.{found, refused}
use Rattle.portmap_wire.proofs.request_reading.read_request.Goals as goal

pub returns-clause-found : goal.returns-clause-found
returns-clause-found c = found c.args.body.now c.read_by_tag.result (λ i. omega (arith, c.type_inv.body i)) c.read_by_tag.ensures.exact

pub returns-clause-refused : goal.returns-clause-refused
returns-clause-refused c = refused c.args.body.now c.read_by_tag.result c.read_by_tag.ensures.exact
