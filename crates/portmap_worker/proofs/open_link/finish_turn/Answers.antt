use Rattle.std.proofs.Common.{refl, ap}
use Rattle.portmap_worker.proofs.Idle.{idles, placed, seen}
use Rattle.portmap_scheduler.specs.declared.LinkState.TheVariants.{Queued}
use Rattle.portmap_worker.proofs.open_link.finish_turn.Goals as goal

pub returns-then-await_report-clause-links : goal.returns-then-await_report-clause-links
returns-then-await_report-clause-links g c =
    idles c.args.key _ _ _ c.leave-then-await_report.ensures (c.await_report.ensures.waits c.if-await_report.true)

pub returns-else-await_report-clause-links : goal.returns-else-await_report-clause-links
returns-else-await_report-clause-links g c = placed Queued c.args.key _ _ _ (ap seen c.requeue.ensures) (λ v. refl)
