use Rattle.std.proofs.Common.{◌+◌, true, false, arith}
use Rattle.std.proofs.lemmas.List.{at_drop_more, at_drop_all}
use Rattle.portmap_command.specs.Daemon.{served_lines}
use Rattle.portmap_command.proofs.Pieces.{left_more, left_at_failure, none_left}
use Rattle.portmap_command.proofs.daemon.report_served.Goals as goal

pub returns-then-not-report_worker : goal.returns-then-not-report_worker
returns-then-not-report_worker g c =
    let i = c.loop-index.index in
    let more = at_drop_more (served_lines (i + 1)) c.args.served.now i 0 c.loop-index-test.true in (
      false,
      left_at_failure _ _ _ _ _ _ _ more c.loop-index.invariant c.if-not-report_worker.ensures.written,
      λ whole. c.report_worker.ensures.spent c.if-not-report_worker.true,
    )

pub loop-index-preserved : goal.loop-index-preserved
loop-index-preserved g c =
    let i = c.loop-index.index in
    let more = at_drop_more (served_lines (i + 1)) c.args.served.now i 0 c.loop-index-test.true in
    left_more _ _ _ _ _ _ _ more c.loop-index.invariant c.if-not-report_worker.ensures.written

pub returns : goal.returns
returns g c =
    let i = c.loop-index.index in
    let none = at_drop_all (served_lines (i + 1)) c.args.served.now i (omega (arith, c.loop-index-test.false)) in
    (true, none_left _ _ _ _ none c.loop-index.invariant, λ whole. absurd cc)
