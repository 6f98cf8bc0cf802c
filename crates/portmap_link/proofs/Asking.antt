-- Repeated calls of a device.
use Rattle.std.specs.List.{AllByRecursion}
use Rattle.std.proofs.Common.{◌≡◌, List, [], ◌∷◌, ◌++◌, append_assoc, rules}
use Rattle.portmap_link.specs.Asking.{GoesOn}

all_push : {A : Type 0} (P : A → Type 0) (xs : List A) (x : A) → AllByRecursion P xs → P x → AllByRecursion P (xs ++ x ∷ [])
all_push P [] x all one = (one, all)
all_push P (y ∷ xs) x all one = (all.0, all_push P xs x all.1 one)

-- One more result.
pub on_more : {A : Type 0} (P : A → Type 0) (old mid new : List A) (x : A) → GoesOn P old mid → new ≡ mid ++ x ∷ [] → P x → GoesOn P old new
on_more P old mid new x so_far more one = search (rules, all_push, append_assoc)
