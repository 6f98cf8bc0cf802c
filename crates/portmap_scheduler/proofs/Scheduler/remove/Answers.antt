use Rattle.std.specs.Prelude.{option_map}
use Rattle.std.proofs.Common.{ap, sym, ◌∙◌, rules}
use Rattle.portmap_scheduler.specs.{Links.{is_pending, is_queued}, Tracked.link_of}
use Rattle.portmap_scheduler.proofs.Calls.{absent_from, absent_seen, remove_seen, remove_whole, seen_link}
use Rattle.portmap_scheduler.proofs.Scheduler.remove.Goals as goal

pub returns-in_err-link-clause-removed : goal.returns-in_err-link-clause-removed
returns-in_err-link-clause-removed g c =
    absent_seen c.self.inside (record c.self.inside { held = c.try_remove.new.self }) c.args.self.now c.args.key
    c.self.invariant c.self.view_is (search rules) (search rules)

pub cut_if-requires : goal.cut_if-requires
cut_if-requires g c e =
    absent_from is_queued c.self.inside.queue.items c.self.inside.held c.args.key c.in_ok-link.link
    c.self.invariant.agrees.queue (sym c.in_ok-link.ensures.value)
    (sym c.is_queued.ensures ∙ e)

pub cut_if-requires-2 : goal.cut_if-requires-2
cut_if-requires-2 g c e =
    absent_from is_pending c.self.inside.pending.items c.self.inside.held c.args.key c.in_ok-link.link
    c.self.invariant.agrees.pending (sym c.in_ok-link.ensures.value)
    (sym c.is_pending.ensures ∙ e)

pub invariant_of-self-2 : goal.invariant_of-self-2
invariant_of-self-2 g c = remove_whole {k = c.args.key} (search rules) c.self.invariant

pub returns-clause-value : goal.returns-clause-value
returns-clause-value g c =
    sym (ap (option_map (λ l. l.0)) (seen_link c.self.inside c.args.key c.self.view_is ∙ ap link_of (sym c.in_ok-link.ensures.value)))

pub returns-clause-removed : goal.returns-clause-removed
returns-clause-removed g c =
    let new =
    record c.self.inside {
      held = c.try_remove.new.self;
      queue = c.cut_if.new.keys;
      pending = c.cut_if-2.new.keys;
      current = c.forget-self-inside.result;
    } in
    rw (← c.self.view_is) (remove_seen {k = c.args.key} {old = c.self.inside} {new = new} (search rules))
