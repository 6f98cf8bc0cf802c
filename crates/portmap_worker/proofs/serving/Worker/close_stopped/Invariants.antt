use Rattle.std.proofs.Common.{◌≤◌}
use Rattle.portmap_worker.specs.Keys.{Agree}
use Rattle.portmap_worker.proofs.serving.Worker.close_stopped.Given as goal

abbrev pub invariant-loop-key : goal.invariant-loop-key
invariant-loop-key g l = record {
  count : l.fn.self.holder.seat.count ≤ l.self.holder.seat.count;
  agree : Agree l.fn.self.holder.held (g.S.LinkSource.has l.fn.self.source) → Agree l.self.holder.held (g.S.LinkSource.has l.self.source);
}
