use Rattle.portmap_wire.proofs.ListingLemmas.{one_reading}
use Rattle.portmap_wire.proofs.list_reading.lines_have_one_reading.Goals as goal

pub returns : goal.returns
returns c = one_reading
