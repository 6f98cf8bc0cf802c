-- The results of searches in a list after an element is added or removed.
use Rattle.std.specs.{Cmp.IsEquivalence, List.{AllByRecursion, position_or_len, IsDistinct}, List.Sorted.IsPermutation}
use Rattle.std.specs.{Option.option_or, Prelude.{find, position, remove, is_some, slice_get}}
use Rattle.std.proofs.Common.{◌≡◌, ℕ, suc, zero, Bool, true, false, cond, List, [], ◌∷◌, ◌++◌, ◌+◌, length, map, take}
use Rattle.std.proofs.Common.{Option, Some, None, refl, ap, ◌∙◌, ◌<◌, get_or, append_assoc, add-one, rules}
use Rattle.std.proofs.{Math.Seq.take-suc, lemmas.List.Folds.{find_at, find-append}}
use Rattle.std.proofs.lemmas.List.Sorted.{IsPermutation-refl, IsPermutation-sym, IsPermutation-trans, IsPermutation-map}
use Rattle.std.proofs.lemmas.List.Sorted.{IsPermutation-middle, IsPermutation-remove, IsPermutation-pop_more}
use Rattle.std.proofs.lemmas.List.Sorted.{IsPermutation-append_comm}
use Rattle.std.proofs.lemmas.Map.Keys.{IsDistinct-IsPermutation, IsDistinct-tail}
use Rattle.std.proofs.lemmas.Option.{get_or_from_slice_get, slice_get_within}
use Rattle.portmap_table.proofs.First.{NonePass}

or_none : {X : Type 0} (o : Option X) → option_or o None ≡ o
or_none o = search rules

pub is_none : {X : Type 0} (o : Option X) → is_some o ≡ false → o ≡ None
is_none o e = search rules

-- A search finds a matching last element if no earlier element matches.
pub find-push : {X : Type 0} (p : X → Bool) (xs : List X) (x : X) → find p xs ≡ None → p x ≡ true → find p (xs ++ x ∷ []) ≡ Some x
find-push p xs x none passes = rw (find-append p xs (x ∷ []), none, passes) refl

-- A last element that does not match changes no search.
pub find-push_other : {X : Type 0} (p : X → Bool) (xs : List X) (x : X) → p x ≡ false → find p (xs ++ x ∷ []) ≡ find p xs
find-push_other p xs x fails = rw (find-append p xs (x ∷ []), fails) (or_none (find p xs))

-- Removing an element that does not match changes no search.
pub find-remove : {X : Type 0} (p : X → Bool) (xs : List X) (at : ℕ) (x : X) → slice_get xs at ≡ Some x → p x ≡ false
    → find p (remove xs at) ≡ find p xs
find-remove p [] at x e fails = absurd cc
find-remove p (y ∷ ys) zero x e fails = search rules
find-remove p (y ∷ ys) (suc at) x e fails = ap (cond (p y) (Some y)) (find-remove p ys at x e fails)

-- `position` returns the index of the element that `find` returns.
pub position-find : {X : Type 0} (p : X → Bool) (xs : List X) (x : X) → find p xs ≡ Some x
    → (position p xs ≡ Some (position_or_len p xs)) × (slice_get xs (position_or_len p xs) ≡ Some x)
position-find p xs x e = search (rules, find_at, slice_get_within)

pub parts : {K : Type 0} (P : K → Type 0) (xs ys : List K) → AllByRecursion P (xs ++ ys) → AllByRecursion P xs × AllByRecursion P ys
parts P [] ys p = (tt, p)
parts P (x ∷ xs) ys p = let rest = parts P xs ys p.1 in ((p.0, rest.0), rest.1)

pub take_read : {X : Type 0} (xs : List X) (i : ℕ) (x : X) → slice_get xs i ≡ Some x → take (i + 1) xs ≡ take i xs ++ x ∷ []
take_read xs i x e = ap (λ n. take n xs) (add-one i) ∙ take-suc xs i x (slice_get_within xs i x e)
    ∙ ap (λ y. take i xs ++ y ∷ []) (get_or_from_slice_get xs i x x e)

-- ---- distinct keys, when a key is added or moved

-- A key that differs from all keys matches no element.
pub keys_pass_not : {X K : Type 0} {same : K → K → Bool} → IsEquivalence same → (key : X → K) (k : K) (xs : List X)
    → AllByRecursion (λ y. same k y ≡ false) (map key xs) → NonePass (λ x. same (key x) k) xs
keys_pass_not laws key k [] differ = tt
keys_pass_not laws key k (x ∷ xs) differ = (laws.symm (key x) k ∙ differ.0, keys_pass_not laws key k xs differ.1)

-- A key that matches no element differs from all keys.
pub key_is_new : {X K : Type 0} {same : K → K → Bool} → IsEquivalence same → (key : X → K) (k : K) (xs : List X)
    → NonePass (λ x. same (key x) k) xs → AllByRecursion (λ y. same k y ≡ false) (map key xs)
key_is_new laws key k [] none = tt
key_is_new laws key k (x ∷ xs) none = (laws.symm k (key x) ∙ none.0, key_is_new laws key k xs none.1)

pub both_parts : {K : Type 0} (P : K → Type 0) (xs ys : List K) → AllByRecursion P xs → AllByRecursion P ys → AllByRecursion P (xs ++ ys)
both_parts P [] ys px py = py
both_parts P (x ∷ xs) ys px py = (px.0, both_parts P xs ys px.1 py)

-- A new key between two parts keeps the keys distinct.
pub distinct_with : {K : Type 0} {same : K → K → Bool} → IsEquivalence same → (k : K) (xs ys : List K)
    → AllByRecursion (λ y. same k y ≡ false) xs → AllByRecursion (λ y. same k y ≡ false) ys → IsDistinct same (xs ++ ys)
    → IsDistinct same ((xs ++ k ∷ []) ++ ys)
unfolding IsDistinct
distinct_with {K} {same} laws k xs ys px py d =
    rw append_assoc (IsDistinct-IsPermutation same laws.symm (k ∷ (xs ++ ys)) (xs ++ k ∷ ys)
    (IsPermutation-sym (xs ++ k ∷ ys) (k ∷ (xs ++ ys)) (IsPermutation-middle xs k ys))
    (both_parts (λ y. same k y ≡ false) xs ys px py, d))

-- A key may move from the second part to the end of the first.
pub distinct_forward : {K : Type 0} {same : K → K → Bool} → IsEquivalence same → (k : K) (xs ys rest : List K)
    → IsPermutation ys (k ∷ rest) → IsDistinct same (xs ++ ys) → IsDistinct same ((xs ++ k ∷ []) ++ rest)
distinct_forward {K} {same} laws k xs ys rest moved d =
    IsDistinct-IsPermutation same laws.symm (xs ++ ys) ((xs ++ k ∷ []) ++ rest)
    (IsPermutation-pop_more (xs ++ ys) xs ys rest k (IsPermutation-refl (xs ++ ys)) moved) d

-- A key may move from the first part to the end of the second.
pub distinct_back : {K : Type 0} {same : K → K → Bool} → IsEquivalence same → (k : K) (xs ys rest : List K) → IsPermutation xs (k ∷ rest)
    → IsDistinct same (xs ++ ys) → IsDistinct same (rest ++ (ys ++ k ∷ []))
distinct_back {K} {same} laws k xs ys rest moved d =
    let first : IsPermutation (xs ++ ys) ((ys ++ k ∷ []) ++ rest) =
    IsPermutation-pop_more (xs ++ ys) ys xs rest k (IsPermutation-append_comm xs ys) moved in
    IsDistinct-IsPermutation same laws.symm (xs ++ ys) (rest ++ (ys ++ k ∷ []))
    (IsPermutation-trans (xs ++ ys) ((ys ++ k ∷ []) ++ rest) (rest ++ (ys ++ k ∷ [])) first
    (IsPermutation-append_comm (ys ++ k ∷ []) rest)) d

-- Removing a key keeps the keys distinct.
pub distinct_without : {K : Type 0} {same : K → K → Bool} → IsEquivalence same → (k : K) (xs rest : List K) → IsPermutation xs (k ∷ rest)
    → IsDistinct same xs → IsDistinct same rest
distinct_without {K} {same} laws k xs rest moved d =
    IsDistinct-tail same k rest (IsDistinct-IsPermutation same laws.symm xs (k ∷ rest) moved d)

-- The keys of a list are the removed key and the keys that remain.
pub keys_moved : {X K : Type 0} (key : X → K) (xs : List X) (at : ℕ) (x : X) → at < length xs → x ≡ get_or xs at x
    → IsPermutation (map key xs) (key x ∷ map key (remove xs at))
keys_moved key xs at x lt e = IsPermutation-map key xs (x ∷ remove xs at) (IsPermutation-remove xs at x lt e)
