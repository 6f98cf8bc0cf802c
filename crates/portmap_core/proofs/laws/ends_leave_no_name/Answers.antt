use Rattle.portmap_core.proofs.Ends.{ends_leave_no_name}
use Rattle.portmap_core.proofs.laws.ends_leave_no_name.Goals as goal

pub returns : goal.returns
returns c = ends_leave_no_name
