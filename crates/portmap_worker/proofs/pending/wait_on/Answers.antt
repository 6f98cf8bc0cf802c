use Rattle.std.proofs.Common.{refl, ap, inl, inr}
use Rattle.portmap_scheduler.specs.declared.LinkState.TheVariants.{Pending}
use Rattle.portmap_worker.proofs.Idle.{seen, sent}
use Rattle.portmap_worker.proofs.pending.wait_on.Goals.{in-Some, in_default}
use Rattle.portmap_worker.proofs.pending.wait_on.Goals as goal

pub returns-clause-links : goal.returns-clause-links
returns-clause-links g c =
    sent Pending c.args.key c.args.links.now c.match-get_mut.links _
    (elim c.match-get_mut.branch [
      | in-Some w ↦ inl (_, w.links-is)
      | in_default w ↦ inr w.links-is
    ])
    (ap seen c.hold.ensures) (λ v. refl)
