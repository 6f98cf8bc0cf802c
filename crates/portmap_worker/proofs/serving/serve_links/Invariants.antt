use Rattle.std.proofs.Common.{◌≡◌, ◌≤◌}
use Rattle.portmap_worker.proofs.serving.serve_links.Given as goal

-- The count of the seat only rises.
abbrev pub invariant-loop : goal.invariant-loop
invariant-loop g l = (l.fn.seat.count ≤ l.worker.holder.seat.count) × (l.before ≡ l.fn.seat.count)
