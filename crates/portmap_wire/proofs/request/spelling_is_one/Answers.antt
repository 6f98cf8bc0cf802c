use Rattle.portmap_wire.proofs.RequestLaws.{one_request}
use Rattle.portmap_wire.proofs.request.spelling_is_one.Goals as goal

pub returns : goal.returns
returns c = one_request
