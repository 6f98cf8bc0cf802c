use Rattle.portmap_core.proofs.Ends.{ends_are_final}
use Rattle.portmap_core.proofs.laws.ends_are_final.Goals as goal

pub returns : goal.returns
returns c = ends_are_final
