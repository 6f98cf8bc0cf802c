use Rattle.std.proofs.Common.{◌≡◌, ℕ, List, refl}
use Rattle.std.proofs.lemmas.Bool.{cond_both}
use Rattle.portmap_wire.specs.Reply.{is_short}
use Rattle.portmap_operator.specs.Outcome.{outcome_of_reply}
use Rattle.portmap_operator.specs.declared.outcome.Outcome.TheVariants as outcome
use Rattle.portmap_operator.proofs.outcome.replies_have_outcomes.Goals as goal

pub returns : goal.returns
returns c = record {
  found = λ node fate. refl;
  missing = λ fate. refl;
  registered = λ high creation fate. cond_both (is_short high) _ _ (λ (reply : List ℕ). outcome_of_reply reply fate ≡ outcome.Registered)
      (λ _. refl) (λ _. refl);
  in_use = λ high creation fate. cond_both (is_short high) _ _ (λ (reply : List ℕ). outcome_of_reply reply fate ≡ outcome.InUse)
      (λ _. refl) (λ _. refl);
  no_room = λ high creation fate. cond_both (is_short high) _ _ (λ (reply : List ℕ). outcome_of_reply reply fate ≡ outcome.NoRoom)
      (λ _. refl) (λ _. refl);
}
