use Rattle.std.proofs.Common.{Some, ap, refl, rules, ◌∙◌}
use Rattle.portmap_scheduler.proofs.Calls.{next_seen, next_whole}
use Rattle.portmap_scheduler.proofs.Scheduler.next.Goals as goal

pub invariant_of-self-2 : goal.invariant_of-self-2
invariant_of-self-2 g c =
    next_whole {k = c.in_ok-key.key} (search rules) (search rules) c.self.invariant (ap (λ v. v.current) c.self.view_is ∙ c.requires)

pub returns-clause-current : goal.returns-clause-current
returns-clause-current g c =
    let new = record c.self.inside { held = c.set_state.new.held; queue = c.pop_front.new.self; current = Some c.in_ok-key.key } in
    rw (← c.self.view_is) (next_seen {k = c.in_ok-key.key} {old = c.self.inside} {new = new} (search rules) refl)
