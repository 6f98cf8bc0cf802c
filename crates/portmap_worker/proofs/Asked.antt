-- Lemmas: the interests that a poll has accepted, and the notes of them.
use Rattle.std.specs.Prelude.{IfSome}
use Rattle.std.specs.declared.io.Error.{Error}
use Rattle.std.proofs.Common.{◌≡◌, ℕ, ◌++◌, List, [], ◌∷◌, Option, Some, None, Result, Ok, Err, ap, sym, append-nil}
use Rattle.portmap_worker.specs.declared.{readiness.Note.Note, system.Interest.Interest}
use Rattle.portmap_worker.specs.Quiet.{AreTaken, taken, watches}

pub none_asked : (key : ℕ) (watched : Option (List (ℕ × Interest))) (notes : List Note) → AreTaken key watched watched notes notes
none_asked key None notes = ([], sym (append-nil notes), tt)
none_asked key (Some watched) notes = ([], sym (append-nil notes), ap Some (sym (append-nil watched)))

module _ (key : ℕ) (old new : Option (List (ℕ × Interest))) (before after : List Note) where
  pub one_asked : (interest : Interest) (outcome : Result Unit Error) → after ≡ before ++ watches outcome interest
      → IfSome old (λ watched. new ≡ Some (watched ++ taken key outcome interest)) → AreTaken key old new before after
  one_asked interest (Ok done) noted asked = (interest ∷ [], noted, asked)
  one_asked interest (Err fault) noted asked = ([], noted, asked)
