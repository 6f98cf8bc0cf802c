use Rattle.std.proofs.Common.{refl}
use Rattle.portmap_scheduler.proofs.Calls.{new_whole}
use Rattle.portmap_scheduler.proofs.Scheduler.new.Goals as goal

pub invariant_of-result : goal.invariant_of-result
invariant_of-result g c = new_whole _ c.new.ensures.empty c.new-2.ensures.items c.new-3.ensures.items refl
