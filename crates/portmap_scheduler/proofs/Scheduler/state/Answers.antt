use Rattle.std.specs.Prelude.{option_map}
use Rattle.std.proofs.Common.{◌≡◌, Some, ap, sym, ◌∙◌, rules}
use Rattle.slab.specs.Slab.{get}
use Rattle.portmap_scheduler.{specs.Tracked.link_of, proofs.Calls.seen_link}
use Rattle.portmap_scheduler.proofs.Scheduler.state.Goals as goal

pub returns : goal.returns
returns g c =
    let here : get c.self.inside.held c.args.key ≡ Some c.in_ok-get.field-0.now = search rules in
    sym (ap (option_map (λ l. l.1)) (seen_link c.self.inside c.args.key c.self.view_is ∙ ap link_of here))
