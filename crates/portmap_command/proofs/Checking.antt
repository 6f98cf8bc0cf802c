-- A check after each of its steps.
use Rattle.std.specs.Bool.{beq}
use Rattle.std.proofs.Common.{◌≡◌, ℕ, zero, suc, ◌<◌, ◌≤◌, ◌++◌, ◌⊎◌, inl, inr, List, [], ◌∷◌, Result, Ok, Err, Bool, true, false, not}
use Rattle.std.proofs.Common.{◌+◌, ◌-◌, arith, refl, sym, ap, ◌∙◌, append_assoc}
use Rattle.std.proofs.lemmas.List.{append-nil}
use Rattle.portmap_command.specs.Health.{Ends, Grows, Made, Makes, missed}
use Rattle.portmap_command.specs.declared.health.Step.{Step, TheVariants.{Pause}}

-- ---- one step

-- One more try.
missed_more : (step : Step) (is : Bool) (n : ℕ) → missed step is (suc n) ≡ missed step is n ++ (step, Ok is) ∷ (Pause, Ok true) ∷ []
missed_more step is zero = refl
missed_more step is (suc n) = ap (λ (more : List Made). (step, Ok is) ∷ (Pause, Ok true) ∷ more) (missed_more step is n)

pub missed_on : (step : Step) (is : Bool) (n : ℕ) → 1 ≤ n
    → missed step is (n + 1 - 1) ≡ missed step is (n - 1) ++ (step, Ok is) ∷ (Pause, Ok true) ∷ []
missed_on step is n some =
    let e : n + 1 - 1 ≡ suc (n - 1) = omega arith in
    ap (missed step is) e ∙ missed_more step is (n - 1)

pub unwanted : (answer wanted : Bool) → beq answer wanted ≡ false → answer ≡ not wanted
unwanted true true other = absurd (cc other)
unwanted true false other = refl
unwanted false true other = refl
unwanted false false other = absurd (cc other)

-- ---- all steps

pub continues : (step : Step × Bool × ℕ) (steps : List (Step × Bool × ℕ)) (now result : Result Unit Made) (old mid new : List Made)
    → now ≡ Ok tt → Grows (Makes step now) old mid → Grows (Ends steps result) mid new → Grows (Ends (step ∷ steps) result) old new
continues step steps (Ok passed) result old mid new was (first, e, made) (rest, f, ended) =
    (first ++ rest, f ∙ ap (λ (l : List Made). l ++ rest) e ∙ append_assoc old first rest, inr (first, rest, made, ended, refl))
continues step steps (Err last) result old mid new was makes ends = absurd (cc was)

pub fails : (step : Step × Bool × ℕ) (steps : List (Step × Bool × ℕ)) (now result : Result Unit Made) (last : Made) (old new : List Made)
    → now ≡ Err last → result ≡ Err last → Grows (Makes step now) old new → Grows (Ends (step ∷ steps) result) old new
fails step steps (Err failed) result last old new was is (made, e, makes) = (made, e, inl (failed, is ∙ sym was, makes))
fails step steps (Ok passed) result last old new was is makes = absurd (cc was)

pub ends : (step : Step × Bool × ℕ) (result : Result Unit Made) (old new : List Made) → Grows (Makes step result) old new
    → Grows (Ends (step ∷ []) result) old new
ends step (Ok passed) old new makes = continues step [] (Ok tt) (Ok passed) old new new refl makes ([], sym (append-nil new), (refl, refl))
ends step (Err last) old new makes = fails step [] (Err last) (Err last) last old new refl refl makes
