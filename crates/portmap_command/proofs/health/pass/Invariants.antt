use Rattle.std.proofs.Common.{◌≡◌, ◌++◌, ◌-◌, not}
use Rattle.portmap_command.specs.Health.{missed}
use Rattle.portmap_command.proofs.health.pass.Given as goal

abbrev pub invariant-loop : goal.invariant-loop
invariant-loop g l = record {
  tried : g.P.Checked.steps l.peer ≡ g.P.Checked.steps l.fn.peer ++ missed l.step (not l.wanted) (l.counter - 1);
}
