use Rattle.portmap_core.proofs.Runs.{written_whole}
use Rattle.portmap_core.proofs.laws.written_is_whole.Goals as goal

pub returns : goal.returns
returns c = written_whole
