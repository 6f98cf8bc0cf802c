use Rattle.portmap_core.proofs.Runs.{incomplete_wait}
use Rattle.portmap_core.proofs.laws.incomplete_requests_wait.Goals as goal

pub returns : goal.returns
returns c = incomplete_wait
