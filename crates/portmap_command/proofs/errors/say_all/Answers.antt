use Rattle.std.specs.List.{flat_map}
use Rattle.std.proofs.Common.{ℕ, List, [], Bor, arith}
use Rattle.std.proofs.lemmas.List.{at_drop_more, at_drop_all}
use Rattle.portmap_command.proofs.Pieces.{left_at_first, left_more, left_at_failure, none_left}
use Rattle.portmap_command.proofs.errors.say_all.Goals as goal

abbrev text : List (Bor (List ℕ)) → List ℕ
text pieces = flat_map (λ piece. piece.now) pieces

abbrev no_piece : Bor (List ℕ)
no_piece = record { ref_ptr = (0, 0); now = [] }

pub loop-piece-init : goal.loop-piece-init
loop-piece-init g c = left_at_first _ _

pub returns-then-not-say-clause-written : goal.returns-then-not-say-clause-written
returns-then-not-say-clause-written g c =
    let more = at_drop_more text c.args.pieces.now c.loop-piece.piece-index no_piece c.loop-piece-test.true in
    left_at_failure _ _ _ _ _ _ _ more c.loop-piece.invariant c.if-not-say.ensures.written

pub loop-piece-preserved : goal.loop-piece-preserved
loop-piece-preserved g c =
    let more = at_drop_more text c.args.pieces.now c.loop-piece.piece-index no_piece c.loop-piece-test.true in
    left_more _ _ _ _ _ _ _ more c.loop-piece.invariant c.if-not-say.ensures.written

pub returns-clause-written : goal.returns-clause-written
returns-clause-written g c =
    let none = at_drop_all text c.args.pieces.now c.loop-piece.piece-index (omega (arith, c.loop-piece-test.false)) in
    none_left _ _ _ _ none c.loop-piece.invariant
