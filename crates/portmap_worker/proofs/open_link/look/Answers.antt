use Rattle.std.proofs.Common.{sym, ap, ◌∙◌}
use Rattle.std.specs.Option.{option_copied_mut}
use Rattle.portmap_worker.proofs.Idle.{itself, kept_so, wakes}
use Rattle.portmap_worker.proofs.open_link.look.Goals as goal

pub returns-then-look : goal.returns-then-look
returns-then-look g c =
    wakes c.args.key _ c.args.links.now c.args.links.now _ (itself c.args.key c.args.links.now) (λ q most h. h)
    c.report.ensures

pub returns-else-look : goal.returns-else-look
returns-else-look g c =
    kept_so c.args.key c.args.links.now c.in-Some.held.now _ (sym (ap option_copied_mut c.in-Some.is) ∙ c.get_mut.ensures.value)
    (λ _. c.look.ensures.quiet c.if-look.false)
