use Rattle.portmap_wire.proofs.LineLemmas.{lists_once}
use Rattle.portmap_wire.proofs.list_reading.lists_have_one_reading.Goals as goal

pub returns : goal.returns
returns c = lists_once
