-- The first element that passes a test, in a list and in its parts.
use Rattle.std.specs.{List.{AllByRecursion, list_any, position_or_len}, Prelude.{find, is_some, position, slice_get}}
use Rattle.std.proofs.Common.{◌≡◌, ℕ, zero, suc, ◌+◌, ◌<◌, Bool, true, false, not, cond, List, [], ◌∷◌, length, drop}
use Rattle.std.proofs.Common.{◌⊎◌, Some, None, refl, sym, ap, ◌∙◌, arith, inl, inr, rules}

module _ {X : Type 0} (p : X → Bool) where
  abbrev pub NonePass : List X → Type 0
  NonePass xs = AllByRecursion (λ x. p x ≡ false) xs

  -- The element at index `at` is the first that passes.
  abbrev pub IsFirst : List X → ℕ → Type 0
  IsFirst [] at = ⊥
  IsFirst (x ∷ xs) zero = p x ≡ true
  IsFirst (x ∷ xs) (suc at) = (p x ≡ false) × IsFirst xs at

  pub within : (xs : List X) (at : ℕ) → IsFirst xs at → at < length xs
  within [] at f = absurd f
  within (x ∷ xs) zero f = omega arith
  within (x ∷ xs) (suc at) f = let lt : at < length xs = within xs at f.1 in omega arith

  -- ---- `position`

  one_on : (x : X) (n : ℕ) (b : Bool) → p x ≡ b → cond (not (p x)) (1 + n) 0 ≡ cond (not b) (1 + n) 0
  one_on x n b e = ap (λ (c : Bool). cond (not c) (1 + n) 0) e

  len_first : (xs : List X) (at : ℕ) → IsFirst xs at → position_or_len p xs ≡ at
  len_first [] at f = absurd f
  len_first (x ∷ xs) zero f = one_on x (position_or_len p xs) true f
  len_first (x ∷ xs) (suc at) f = one_on x (position_or_len p xs) false f.0 ∙ ap (λ (n : ℕ). 1 + n) (len_first xs at f.1) ∙ omega arith

  len_none : (xs : List X) → NonePass xs → position_or_len p xs ≡ length xs
  len_none [] none = refl
  len_none (x ∷ xs) none = one_on x (position_or_len p xs) false none.0 ∙ ap (λ (n : ℕ). 1 + n) (len_none xs none.1) ∙ omega arith

  pub first_place : (xs : List X) (at : ℕ) → IsFirst xs at → position p xs ≡ Some at
  first_place xs at f = search (rules, len_first, within)

  pub no_index : (xs : List X) → NonePass xs → position p xs ≡ None
  no_index xs none = search (rules, len_none)

  either_with : (x : X) (xs : List X) (b : Bool) → p x ≡ b → NonePass xs ⊎ ((at : ℕ) × IsFirst xs at)
      → NonePass (x ∷ xs) ⊎ ((at : ℕ) × IsFirst (x ∷ xs) at)
  either_with x xs true e rest = inr (0, e)
  either_with x xs false e (inl none) = inl (e, none)
  either_with x xs false e (inr f) = inr (suc f.0, (e, f.1))

  pub either : (xs : List X) → NonePass xs ⊎ ((at : ℕ) × IsFirst xs at)
  either [] = inl tt
  either (x ∷ xs) = either_with x xs (p x) refl (either xs)

  pub none_at : (xs : List X) → is_some (position p xs) ≡ false → NonePass xs
  none_at xs e = search (rules, either, first_place)

  any_first : (xs : List X) (at : ℕ) → IsFirst xs at → list_any p xs ≡ true
  any_first [] at f = absurd f
  any_first (x ∷ xs) zero f = rw f refl
  any_first (x ∷ xs) (suc at) f = rw f.0 (any_first xs at f.1)

  pub any_none : (xs : List X) → NonePass xs → list_any p xs ≡ false
  any_none [] none = refl
  any_none (x ∷ xs) none = rw none.0 (any_none xs none.1)

  pub any_place : (xs : List X) → is_some (position p xs) ≡ list_any p xs
  any_place xs = search (rules, any_first, any_none, either, first_place, no_index)

  -- ---- `find`

  pub first_found : (xs : List X) (at : ℕ) (x : X) → IsFirst xs at → slice_get xs at ≡ Some x → find p xs ≡ Some x
  first_found [] at x f e = absurd f
  first_found (y ∷ xs) zero x f e = ap (λ (b : Bool). cond b (Some y) (find p xs)) f ∙ e
  first_found (y ∷ xs) (suc at) x f e = ap (λ (b : Bool). cond b (Some y) (find p xs)) f.0 ∙ first_found xs at x f.1 e

  pub none_found : (xs : List X) → is_some (find p xs) ≡ false → NonePass xs
  none_found [] e = tt
  none_found (x ∷ xs) e = by (p x) refl e (none_found xs)
    where
      by : (b : Bool) → p x ≡ b → is_some (cond b (Some x) (find p xs)) ≡ false → (is_some (find p xs) ≡ false → NonePass xs)
          → NonePass (x ∷ xs)
      by true t none rest = absurd cc
      by false t none rest = (t, rest none)

  pub finds_none : (xs : List X) → NonePass xs → find p xs ≡ None
  finds_none [] none = refl
  finds_none (x ∷ xs) none = ap (λ (b : Bool). cond b (Some x) (find p xs)) none.0 ∙ finds_none xs none.1

  -- ---- a part of a list

  pub none_read : (xs : List X) (i : ℕ) (x : X) → NonePass xs → slice_get xs i ≡ Some x → p x ≡ false
  none_read [] i x none e = absurd cc
  none_read (y ∷ xs) zero x none e = let same : y ≡ x = cc in ap p (sym same) ∙ none.0
  none_read (y ∷ xs) (suc i) x none e = none_read xs i x none.1 e

  pub none_behind : (r : ℕ) (xs : List X) → NonePass xs → NonePass (drop r xs)
  none_behind zero xs none = none
  none_behind (suc r) [] none = tt
  none_behind (suc r) (x ∷ xs) none = none_behind r xs none.1
