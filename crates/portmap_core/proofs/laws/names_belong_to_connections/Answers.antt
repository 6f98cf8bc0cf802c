use Rattle.portmap_core.proofs.Runs.{names_belong}
use Rattle.portmap_core.proofs.laws.names_belong_to_connections.Goals as goal

pub returns : goal.returns
returns c = names_belong
