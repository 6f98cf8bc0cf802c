use Rattle.portmap_core.proofs.Leaving.{leavers_are_remembered}
use Rattle.portmap_core.proofs.laws.leavers_are_remembered.Goals as goal

pub returns : goal.returns
returns c = leavers_are_remembered
