use Rattle.portmap_core.proofs.Taken.{taken_creations_are_new}
use Rattle.portmap_core.proofs.laws.taken_creations_are_new.Goals as goal

pub returns : goal.returns
returns c = taken_creations_are_new
