use Rattle.std.proofs.Common.{sym, ap, ◌∙◌}
use Rattle.std.specs.Option.{option_copied_mut}
use Rattle.portmap_worker.proofs.Idle.{kept_so}
use Rattle.portmap_worker.proofs.open_link.watch.Goals as goal

pub returns-in-Some-clause-links : goal.returns-in-Some-clause-links
returns-in-Some-clause-links g c =
    kept_so c.args.key c.args.links.now c.in-Some.held.now _ (sym (ap option_copied_mut c.in-Some.is) ∙ c.get_mut.ensures.value)
    c.watch.ensures.quiet
