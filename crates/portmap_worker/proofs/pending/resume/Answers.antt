use Rattle.std.specs.Prelude.{Bool, IfSome, option_map}
use Rattle.std.proofs.Common.{◌≡◌, Option, Some, None, refl, sym, subst, ap, ◌∙◌, inl, inr, rules}
use Rattle.portmap_scheduler.specs.Links.{link_at}
use Rattle.portmap_scheduler.specs.declared.LinkState.{LinkState, TheVariants.{Queued}}
use Rattle.portmap_worker.specs.declared.open_link.OpenLink.{OpenLink}
use Rattle.portmap_worker.proofs.Idle.{moved_here, seen, sent, to, with, written_here}
use Rattle.portmap_worker.proofs.pending.resume.Goals.{in-Some, in_default}
use Rattle.portmap_worker.proofs.pending.resume.Goals as goal

pub returns-clause-links : goal.returns-clause-links
returns-clause-links g c =
    sent Queued c.args.key c.args.links.now c.match-get_mut.links _
    (elim c.match-get_mut.branch [
      | in-Some w ↦ inl (_, w.links-is)
      | in_default w ↦ inr w.links-is
    ])
    (ap seen c.requeue.ensures) (λ v. refl)

module _ {S : Type 0} where
  abbrev is_late : OpenLink S × LinkState → Bool
  is_late l = l.0.link.timer.is_late

  -- A link that got this value, and is queued, is late as the value says.
  late_of : (late : Bool) (v : OpenLink S) (o : Option (OpenLink S × LinkState)) → v.link.timer.is_late ≡ late
      → IfSome (option_map (to Queued) (option_map (with v) o)) (λ l. is_late l ≡ late)
  late_of late v None e = search rules
  late_of late v (Some l) e = e

pub returns-clause-late : goal.returns-clause-late
returns-clause-late g c =
    let k = c.args.key in
    let at = ap (λ r. link_at r k) c.requeue.ensures ∙ moved_here Queued k c.match-get_mut.links in
    subst (λ o. IfSome o (λ l. is_late l ≡ c.args.is_short)) (sym at)
    (elim c.match-get_mut.branch [
      | in-Some w ↦
          subst (λ o. IfSome (option_map (to Queued) o) (λ l. is_late l ≡ c.args.is_short))
          (sym (ap (λ r. link_at r k) w.links-is ∙ written_here k _ c.args.links.now))
          (late_of c.args.is_short _ (link_at c.args.links.now k) (ap (λ l. l.timer.is_late) w.set_late.ensures))
      | in_default w ↦ search (rules, w.links-is, c.get_mut.ensures.value)
    ])
