-- Lemmas: a key that waits in a list is reached in FIFO order.
use Rattle.std.specs.Prelude.{slice_get, drop}
use Rattle.std.proofs.Common.{◌≡◌, ◌≢◌, ℕ, ◌+◌, ◌<◌, ◌≤◌, Bool, true, false, not, eqb, List, [], ◌∷◌, length}
use Rattle.std.proofs.{Common.{refl, ap, ◌∙◌, arith, rules}}
use Rattle.std.proofs.{lemmas.Bool.Decides.nat_tests, lemmas.Grind.common_steps}
use Rattle.std.proofs.lemmas.List.Sums.{count_by-le-length, length-filter, sum_by-append}
use Rattle.portmap_scheduler.specs.{Tracked.one, Links.{Links, pushed, times, without}, Runs.{AllSpare, Call, Change}}
use Rattle.portmap_scheduler.specs.Runs.{QueueIsFifo, WaitIsBounded, Does, Line, Run, Spares, all_taken, before, change}
use Rattle.portmap_scheduler.specs.Runs.{first_taken, keys_of, turn, turns, Stays, Joins, Takes, Leaves}
use Rattle.portmap_scheduler.proofs.Times.{times-cons, times-filter}

-- The list after a change.
abbrev pub Becomes : Change → List ℕ → List ℕ → Type 0
Becomes Stays old new = new ≡ old
Becomes (Joins j) old new = (b : Bool) × (new ≡ pushed b j old)
Becomes (Takes first) old new = (first ≡ slice_get old 0) × (new ≡ drop 1 old)
Becomes (Leaves j) old new = new ≡ without j old

-- The key is in the list. The keys that were taken, and the keys ahead of it now, were ahead of it at first.
pub record Comes (k n : ℕ) (taken old new : List ℕ) : Type 0 where
  pub there : 0 < times k new
  pub nearer : n + length (before k new) ≤ length (before k old)
  pub ordered : (j : ℕ) → times j taken + times j (before k new) ≤ times j (before k old)

same_before : (k : ℕ) (old new : List ℕ) → 0 < times k new → before k new ≡ before k old → Comes k 0 [] old new
same_before k old new h e = record { there = h; nearer = rw e (omega arith); ordered = λ j. rw e (omega arith) }

before-pushed : (b : Bool) (k j : ℕ) (xs : List ℕ) → 0 < times k xs → before k (pushed b j xs) ≡ before k xs
before-pushed false k j xs h = refl
before-pushed true k j [] h = absurd (omega (arith, h))
before-pushed true k j (y ∷ ys) h = grind (arith, nat_tests, times-cons k y ys, before-pushed true k j ys)

before-without : (k j : ℕ) (xs : List ℕ) → j ≢ k → before k (without j xs) ≡ without j (before k xs)
before-without k j [] d = refl
before-without k j (y ∷ ys) d = grind (arith, nat_tests, d, before-without k j ys d)

one_turn : (k : ℕ) (change : Change) (old new : List ℕ) → Becomes change old new → 0 < times k old → Spares k change
    → Comes k (turn change) (first_taken change) old new
one_turn k Stays old new d h s = same_before k old new (rw d h) (ap (before k) d)
one_turn k (Joins j) old new d h s = grind (arith, common_steps, before-pushed)
one_turn k (Takes first) [] new d h s = absurd (omega (arith, h))
one_turn k (Takes first) (x ∷ rest) new d h s = grind (arith, common_steps)
one_turn k (Leaves j) old new d h s =
    let less = ap (before k) d ∙ before-without k j old s in
    record {
      there = rw d (grind (arith, nat_tests, times-filter (λ i. not (eqb i j)) k old, s, h));
      nearer = rw less (omega
          (arith, length-filter (λ i. not (eqb i j)) (before k old), count_by-le-length (λ i. not (eqb i j)) (before k old)));
      ordered = λ i. rw less (grind (arith, nat_tests, times-filter (λ i. not (eqb i j)) i (before k old)));
    }

module _ {T : Type 0} where
  becomes : (line : Line) (call : Call T) (old new : Links T) → Does call old new
      → Becomes (change line call) (keys_of line old) (keys_of line new)
  becomes line call old new d = search rules

  comes : (line : Line) (k : ℕ) (calls : List (Call T)) (old new : Links T) → Run calls old new → 0 < times k (keys_of line old)
      → AllSpare line k calls
      → Comes k (turns line calls) (all_taken line calls) (keys_of line old) (keys_of line new)
  comes line k [] old new d h s = same_before k (keys_of line old) (keys_of line new) (rw d h) (ap (λ r. before k (keys_of line r)) d)
  comes line k (call ∷ calls) old new d h s =
      let first = one_turn k (change line call) (keys_of line old) (keys_of line d.0) (becomes line call old d.0 d.1) h s.0 in
      let rest = comes line k calls d.0 new d.2 first.there s.1 in
      let a = first.nearer in
      let b = rest.nearer in
      record {
        there = rest.there;
        nearer = omega arith;
        ordered = λ j. omega (
          arith,
          first.ordered j,
          rest.ordered j,
          sum_by-append (λ i. one (eqb i j)) (first_taken (change line call))
              (all_taken line calls),
        );
      }

  pub wait_is_bounded : (line : Line) → WaitIsBounded T line
  wait_is_bounded line k calls old new d h s = let c = comes line k calls old new d h s in (c.there, c.nearer)

  pub comes_in_order : (line : Line) → QueueIsFifo T line
  comes_in_order line k calls old new d h s j = let c = (comes line k calls old new d h s).ordered j in omega arith

pub ruleset laws = (wait_is_bounded, comes_in_order)
