use Rattle.portmap_core.proofs.Ends.{holders_outlast_their_time}
use Rattle.portmap_core.proofs.laws.holders_outlast_their_time.Goals as goal

pub returns : goal.returns
returns c = holders_outlast_their_time
