use Rattle.portmap_core.proofs.Runs.{malformed_keeps}
use Rattle.portmap_core.proofs.laws.malformed_changes_no_name.Goals as goal

pub returns : goal.returns
returns c = malformed_keeps
