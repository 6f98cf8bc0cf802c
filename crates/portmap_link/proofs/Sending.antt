-- Bytes are sent in parts.
use Rattle.std.specs.Io.KnownBytes.{Appends}
use Rattle.std.proofs.Common.{◌≡◌, ℕ, ◌+◌, ◌-◌, ◌≤◌, ◌↔◌, List, [], length, take, drop, Option, sym, ap, ◌∙◌}
use Rattle.std.proofs.{Common.{append_assoc, arith, rules}, Math.Seq.take-add, lemmas.List.{drop_all, length-drop}}

-- The bytes grew by the first `n` bytes and then by the next `m` bytes.
pub appends_more : (a b c : Option (List ℕ)) (n m : ℕ) (xs : List ℕ) → Appends a b (take n xs) → Appends b c (take m (drop n xs))
    → Appends a c (take (n + m) xs)
appends_more a b c n m xs first second = search (rules, append_assoc, take-add)

-- No byte is left if and only if all bytes were sent.
pub drop_is_nil : (n : ℕ) (xs : List ℕ) → n ≤ length xs → (drop n xs ≡ []) ↔ (n ≡ length xs)
drop_is_nil n xs within = (
  λ none. (let left : length xs - n ≡ 0 = sym (length-drop n xs) ∙ ap (λ (t : List ℕ). length t) none in omega (arith, left, within)),
  λ all. drop_all n xs (omega (arith, all)),
)
