-- Lemmas: how often a key is in a list.
use Rattle.std.specs.{List.{All, IsDistinct, list_any}, Prelude.{drop, slice_get}}
use Rattle.std.proofs.Common.{◌≡◌, ◌≢◌, ℕ, ◌+◌, ◌<◌, ◌≤◌, Bool, true, false, cond, eqb, List, [], ◌∷◌, length, refl}
use Rattle.std.proofs.Common.{arith, filter, rules, Some}
use Rattle.std.proofs.{lemmas.Bool.Decides.nat_tests}
use Rattle.std.proofs.{lemmas.Grind.common_steps, lemmas.List.Elements.{All-nil, recursion_from_All}}
use Rattle.std.proofs.{lemmas.List.Sums.{sum_by-append, sum_by-cons}, lemmas.Map.Steps.length-le_from_distinct_below}
use Rattle.portmap_scheduler.specs.{Tracked.one, Links.{pushed, times, without}}

pub times-cons : (k x : ℕ) (xs : List ℕ) → times k (x ∷ xs) ≡ one (eqb x k) + times k xs
times-cons k x xs = sum_by-cons (λ j. cond (eqb j k) 1 0) x xs

pub times-pushed : (b : Bool) (k : ℕ) (xs : List ℕ) → times k (pushed b k xs) ≡ times k xs + one b
times-pushed b k xs = search (rules, sum_by-append)

pub times-pushed_other : (b : Bool) (j k : ℕ) (xs : List ℕ) → j ≢ k → times j (pushed b k xs) ≡ times j xs
times-pushed_other b j k xs d = search (rules, sum_by-append)

pub times-filter : (p : ℕ → Bool) (k : ℕ) (xs : List ℕ) → times k (filter p xs) ≡ cond (p k) (times k xs) 0
times-filter p k [] = grind arith
times-filter p k (x ∷ xs) = grind (arith, nat_tests, times-filter p k xs, times-cons k x xs, times-cons k x (filter p xs))

pub first_listed : (k : ℕ) (xs : List ℕ) → slice_get xs 0 ≡ Some k → 0 < times k xs
first_listed k [] first = absurd cc
first_listed k (x ∷ xs) first = grind (arith, nat_tests, times-cons k x xs, first)

-- ---- distinct keys

absent_all : (x : ℕ) (xs : List ℕ) → times x xs ≡ 0 → All (λ y. eqb x y ≡ false) xs
absent_all x [] h = All-nil (λ y. eqb x y ≡ false)
absent_all x (y ∷ ys) h = grind (arith, common_steps)

distinct_from_times : (xs : List ℕ) → ((k : ℕ) → times k xs ≤ 1) → IsDistinct eqb xs
unfolding IsDistinct
distinct_from_times [] h = tt
distinct_from_times (x ∷ xs) h = (
  recursion_from_All (λ y. eqb x y ≡ false) xs (absent_all x xs (grind (arith, nat_tests, times-cons x x xs, h x))),
  distinct_from_times xs (λ k. omega (arith, times-cons k x xs, h k)),
)

present : (q : ℕ) (xs : List ℕ) → list_any (eqb q) xs ≡ true → 0 < times q xs
present q [] h = absurd (cc)
present q (x ∷ xs) h = grind (arith, nat_tests, times-cons q x xs, present q xs)

-- Distinct keys below `n` are fewer than `n`, if some `j` below `n` is not among them.
pub times_fit : (xs : List ℕ) (n j : ℕ) → ((k : ℕ) → times k xs ≤ 1) → ((k : ℕ) → 0 < times k xs → k < n) → times j xs ≡ 0 → j < n
    → length xs < n
times_fit xs n j once below absent within =
    let more = λ (k : ℕ). times-cons k j xs in
    let each : (k : ℕ) → times k (j ∷ xs) ≤ 1 = λ k. grind (arith, nat_tests, more k, once k, absent) in
    let all : (q : ℕ) → list_any (eqb q) (j ∷ xs) ≡ true → q < n = λ q h. grind (arith, nat_tests, more q, below q, present q (j ∷ xs) h) in
    let fit = length-le_from_distinct_below (j ∷ xs) n (distinct_from_times (j ∷ xs) each) all in
    omega arith

-- ---- lists without a key

pub without_absent : (k : ℕ) (xs : List ℕ) → times k xs ≡ 0 → without k xs ≡ xs
without_absent k [] e = refl
without_absent k (x ∷ xs) e = grind (arith, common_steps, nat_tests, without_absent k xs)

-- A key that is first and occurs once.
pub without_first : (k : ℕ) (xs : List ℕ) → slice_get xs 0 ≡ Some k → times k xs ≤ 1 → without k xs ≡ drop 1 xs
without_first k [] first once = absurd cc
without_first k (x ∷ xs) first once = grind (arith, common_steps, nat_tests, first, once, without_absent k xs)
