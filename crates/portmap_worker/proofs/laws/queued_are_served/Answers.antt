use Rattle.portmap_worker.proofs.Turns.{queued_are_served}
use Rattle.portmap_worker.proofs.laws.queued_are_served.Goals as goal

pub returns : goal.returns
returns g c = queued_are_served _
