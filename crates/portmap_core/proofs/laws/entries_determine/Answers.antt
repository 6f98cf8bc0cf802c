use Rattle.portmap_core.proofs.Determined.{determined}
use Rattle.portmap_core.proofs.laws.entries_determine.Goals as goal

pub returns : goal.returns
returns c = determined
