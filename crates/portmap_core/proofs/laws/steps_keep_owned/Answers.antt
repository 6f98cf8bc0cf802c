use Rattle.portmap_core.proofs.Owned.{steps_keep}
use Rattle.portmap_core.proofs.laws.steps_keep_owned.Goals as goal

pub returns : goal.returns
returns c = steps_keep
