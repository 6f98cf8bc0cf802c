use Rattle.std.proofs.Common.{sym, ap, ◌∙◌}
use Rattle.std.specs.Option.{option_copied_mut}
use Rattle.portmap_worker.proofs.Idle.{as_calm}
use Rattle.portmap_worker.proofs.admission.evict.Goals as goal

pub returns-in-Some-clause-links : goal.returns-in-Some-clause-links
returns-in-Some-clause-links g c =
    as_calm c.args.key c.args.links.now c.in-Some.held.now _ (sym (ap option_copied_mut c.in-Some.is) ∙ c.get_mut.ensures.value)
    (ap (λ r. r.notes) c.evict.ensures.notes)
