use Rattle.std.proofs.Common.{take, arith, ap, ◌∙◌, subst, List, [], ◌∷◌, ◌++◌}
use Rattle.portmap_link.specs.{declared.device.Pull.{Pull, TheVariants.Piece}, declared.device.Put.Put}
use Rattle.portmap_worker.specs.Carrying.{FollowsAnswer}
use Rattle.portmap_worker.proofs.Carrying.{read_between, is_read, moves_more, follows_flush}
use Rattle.portmap_worker.proofs.carrier.Carrier.ready.Goals as goal
use Rattle.portmap_worker.proofs.carrier.Carrier.ready.Goals.{in-Empty+else-self, in-Later+else-self-2}

pub returns-in-Ok-clause-acted : goal.returns-in-Ok-clause-acted
returns-in-Ok-clause-acted g c = (
  take c.in-Piece.n c.pull.new.buffer,
  is_read _ _ _ _ c.in-Piece.ensures.bytes.1 (omega (arith, c.pull.auto.buffer))
      (read_between _ _ _ _ _ c.flush.ensures.left c.in-Piece.ensures.bytes.2 c.reply-next.ensures.left)
      (c.reply-next.ensures.pulls ∙ c.in-Piece.ensures.noted ∙ ap (λ (t : List Pull). t ++ Piece c.in-Piece.n ∷ []) c.flush.ensures.pulls),
  c.in-Ok.ensures.acted,
  c.in-Ok.ensures.asks,
)

pub returns-in-Ok-clause-written : goal.returns-in-Ok-clause-written
returns-in-Ok-clause-written g c =
    moves_more _ _ _ _ _ _ _ _ c.flush.ensures.written c.in-Piece.ensures.held c.reply-next.ensures.written

pub returns-in-Ok-clause-next : goal.returns-in-Ok-clause-next
returns-in-Ok-clause-next g c =
    follows_flush c.in-Ok.answer _ _ _ _ _ _ _ c.flush.ensures.answers
    (subst (λ (puts : List Put). FollowsAnswer c.in-Ok.answer puts
    (g.I.Device.puts c.reply-next.new.link) c.reply-next.new.self.out c.reply-next.result) c.in-Piece.ensures.puts
    c.reply-next.ensures.next)

pub returns-in-Ok-clause-does : goal.returns-in-Ok-clause-does
returns-in-Ok-clause-does g c =
    let acted = returns-in-Ok-clause-acted g c in
    record {
      piece = acted.0;
      read = acted.1;
      says = acted.2;
      not_due = elim c.match-flush.branch [ in-Empty+else-self w ↦ w.if-self.false | in-Later+else-self-2 w ↦ w.if-self-2.false ];
      due = c.reply-next.ensures.due;
      writes = returns-in-Ok-clause-written g c;
    }
