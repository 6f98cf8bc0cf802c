use Rattle.std.proofs.Common.{◌≡◌, sym, ◌∙◌, ◌≤◌, arith}
use Rattle.portmap_worker.proofs.Idle.{all_noted, more_noted}
use Rattle.portmap_worker.specs.declared.limits.TheConstants.{EVENTS_MOST}
use Rattle.portmap_worker.proofs.sockets.Sockets.handle_events.Goals as goal

pub loop-place-preserved : goal.loop-place-preserved
loop-place-preserved g c = record {
  system = c.handle_event.ensures.system ∙ c.loop-place.invariant.system;
  noted = rw c.handle_event.ensures.system
      (more_noted c.loop-place.place c.in-Some.event c.args.links.now c.loop-place.links c.handle_event.new.links
      (g.S.System.reports c.loop-place.self.system) (rw c.in-Some.is at c.report.ensures) c.loop-place.invariant.noted
      c.handle_event.ensures.noted);
  links = λ fact h. c.handle_event.ensures.links fact (c.loop-place.invariant.links fact h);
}

pub returns-in_default-clause-noted : goal.returns-in_default-clause-noted
returns-in_default-clause-noted g c =
    let below : c.loop-place.place ≤ EVENTS_MOST = omega (arith, c.loop-place.auto.place-end) in
    rw (sym c.loop-place.invariant.system)
    (all_noted c.loop-place.place EVENTS_MOST c.args.links.now c.loop-place.links (g.S.System.reports c.loop-place.self.system)
    (rw c.in_default.is at c.report.ensures) below c.loop-place.invariant.noted)

pub returns-clause-noted : goal.returns-clause-noted
returns-clause-noted g c =
    let end : c.loop-place.place ≡ EVENTS_MOST = omega (arith, c.loop-place.auto.place-end, c.loop-place-test.false) in
    rw (sym c.loop-place.invariant.system) (rw end at c.loop-place.invariant.noted)
