use Rattle.std.proofs.Common.{append_assoc, inr, not, refl}
use Rattle.portmap_command.proofs.Checking.{missed_on, unwanted}
use Rattle.portmap_command.proofs.health.pass.Goals as goal

pub loop-preserved : goal.loop-preserved
loop-preserved g c =
    let more = missed_on c.args.step (not c.args.wanted) c.loop.counter c.loop.auto.counter in
    let answer = unwanted c.in-Ok.answer c.args.wanted c.if-answer-wanted.false in
    let pause = c.make-in-loop.ensures.alone (inr refl) in
    record {
      tried = rw (more, c.make-in-loop.ensures.recorded, c.make.ensures.recorded, c.loop.invariant.tried, c.in-Ok.is, answer, pause)
          (simp append_assoc refl);
    }
