-- Lemmas: the number of `Later` results.
use Rattle.std.specs.Prelude.{count_by}
use Rattle.std.proofs.{Common.{◌≡◌, ◌+◌, List, [], ◌∷◌, ◌++◌, ap, ◌∙◌, cond}, lemmas.List.Sums.sum_by-append}
use Rattle.portmap_link.specs.{Asking.is_pull_later, declared.device.Pull.Pull}

-- One more pull.
pub pulled : (old new : List Pull) (pull : Pull) → new ≡ old ++ pull ∷ []
    → count_by is_pull_later new ≡ count_by is_pull_later old + count_by is_pull_later (pull ∷ [])
pulled old new pull more = ap (count_by is_pull_later) more ∙ sum_by-append (λ (p : Pull). cond (is_pull_later p) 1 0) old (pull ∷ [])
