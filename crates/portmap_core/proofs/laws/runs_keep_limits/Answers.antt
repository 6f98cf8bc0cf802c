use Rattle.portmap_core.proofs.Ends.{runs_keep_limits}
use Rattle.portmap_core.proofs.laws.runs_keep_limits.Goals as goal

pub returns : goal.returns
returns c = runs_keep_limits
