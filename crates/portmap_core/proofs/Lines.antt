-- The lines of a list, with one more line.
use Rattle.std.specs.{List.flat_map, Prelude.slice_get}
use Rattle.std.proofs.Common.{◌≡◌, ℕ, ◌+◌, ◌<◌, List, [], ◌++◌, length, map, get_or, take, Some, None, refl}
use Rattle.std.proofs.{Common.{append_assoc, rules}, lemmas.Grind.flat_map-append, lemmas.List.{append-nil, map_more}}
use Rattle.std.proofs.lemmas.List.Concat.{flat_map-cons}
use Rattle.std.proofs.lemmas.Option.{slice_get_cases, slice_get_within, get_or_from_slice_get}

module _ {X L : Type 0} (line : L → List ℕ) (f : X → L) (xs : List X) (i : ℕ) (x : X) (here : slice_get xs i ≡ Some x) where
  one_more : flat_map line (map f (take (i + 1) xs)) ≡ flat_map line (map f (take i xs)) ++ line (f x)
  one_more =
      let lt : i < length xs = slice_get_within xs i x here in
      let is : get_or xs i x ≡ x = get_or_from_slice_get xs i x x here in
      rw (map_more f xs i x lt, is, flat_map-append line, flat_map-cons line (f x) [], append-nil (line (f x))) refl

  pub with_line : {reply after : List ℕ} (base : List ℕ) → reply ≡ base ++ flat_map line (map f (take i xs)) → after ≡ reply ++ line (f x)
      → after ≡ base ++ flat_map line (map f (take (i + 1) xs))
  with_line base so_far is = search (rules, append_assoc, one_more)

-- An index below the length has an element.
pub not_past : {X : Type 0} (xs : List X) (i : ℕ) → i < length xs → slice_get xs i ≡ None → ⊥
not_past xs i lt e = search (rules, slice_get_cases)
