use Rattle.std.specs.List.{flat_map}
use Rattle.std.proofs.Common.{drop}
use Rattle.portmap_link.specs.Adapters.{writing_inner}
use Rattle.portmap_command.proofs.Pieces.{IsLeft}
use Rattle.portmap_command.proofs.errors.say_all.Given as goal

abbrev pub invariant-loop-piece : goal.invariant-loop-piece
invariant-loop-piece g l =
    IsLeft (flat_map (λ piece. piece.now) l.pieces) (flat_map (λ piece. piece.now) (drop l.piece-index l.pieces))
    (g.E.Write.contents (writing_inner l.initial.errors)) (g.E.Write.contents (writing_inner l.errors))
