use Rattle.portmap_wire.proofs.LineLemmas.{names_read_back}
use Rattle.portmap_wire.proofs.list_reading.names_are_read_back.Goals as goal

pub returns : goal.returns
returns c = names_read_back
