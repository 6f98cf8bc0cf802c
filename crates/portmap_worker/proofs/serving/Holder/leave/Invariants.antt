use Rattle.std.proofs.Common.{◌≤◌, length}
use Rattle.portmap_worker.proofs.serving.Holder.leave.Given as goal

-- The count of the seat only rises.
abbrev pub invariant-loop-carrier : goal.invariant-loop-carrier
invariant-loop-carrier g l = l.fn.self.seat.count ≤ l.holder.seat.count

abbrev pub decreases-loop-carrier : goal.decreases-loop-carrier
decreases-loop-carrier g l = length l.holder.held.entries
