-- Lemmas: the printed text grows with each byte.
use Rattle.std.proofs.Common.{◌≡◌, ℕ, zero, suc, ◌+◌, ◌-◌, ◌<◌, ◌≤◌, List, [], ◌++◌, length, drop, append_assoc, arith}
use Rattle.std.proofs.Common.{refl, sym, ap, subst, ◌∙◌}
use Rattle.std.proofs.lemmas.List.{append-nil, at_drop_all, at_drop_more, drop_more}
use Rattle.portmap_operator.specs.Showing.{front, more, shown_behind}

passed : (bytes : List ℕ) (place count : ℕ) → place < length bytes → 0 < count
    → shown_behind count (drop place bytes) ≡ shown_behind (count - 1) (drop (place + 1) bytes)
passed bytes place zero there some = absurd (omega (arith, some))
passed bytes place (suc count) there some = at_drop_more (shown_behind (suc count)) bytes place 0 there
    ∙ ap (λ (n : ℕ). shown_behind n (drop (place + 1) bytes)) (omega arith)

begun : (bytes : List ℕ) (place : ℕ) → place < length bytes
    → shown_behind 0 (drop place bytes) ≡ front (drop place bytes) ++ shown_behind (more (drop place bytes)) (drop (place + 1) bytes)
begun bytes place there = subst
    (λ (rest : List ℕ). shown_behind 0 rest ≡ front rest ++ shown_behind (more rest) (drop (place + 1) bytes))
    (sym (drop_more bytes place 0 there)) refl

none : (count : ℕ) → shown_behind count [] ≡ []
none zero = refl
none (suc count) = refl

-- The byte belongs to a character that is printed already.
pub is_passed : (text bytes : List ℕ) (place count : ℕ) → place < length bytes → 0 < count
    → text ++ shown_behind (count - 1) (drop (place + 1) bytes) ≡ text ++ shown_behind count (drop place bytes)
is_passed text bytes place count there some = ap (λ (rest : List ℕ). text ++ rest) (sym (passed bytes place count there some))

-- A character, or a byte outside of any character, begins here.
pub is_begun : (text whole bytes : List ℕ) (place : ℕ) → place < length bytes → text ++ shown_behind 0 (drop place bytes) ≡ whole
    → text ++ front (drop place bytes) ++ shown_behind (more (drop place bytes)) (drop (place + 1) bytes) ≡ whole
is_begun text whole bytes place there was =
    append_assoc text (front (drop place bytes)) (shown_behind (more (drop place bytes)) (drop (place + 1) bytes))
    ∙ ap (λ (rest : List ℕ). text ++ rest) (sym (begun bytes place there)) ∙ was

pub is_done : (text whole bytes : List ℕ) (place count : ℕ) → length bytes ≤ place
    → text ++ shown_behind count (drop place bytes) ≡ whole → text ≡ whole
is_done text whole bytes place count all was = sym (append-nil text)
    ∙ ap (λ (rest : List ℕ). text ++ rest) (sym (at_drop_all (shown_behind count) bytes place all ∙ none count)) ∙ was

pub ruleset steps = (is_passed, is_begun, is_done)
