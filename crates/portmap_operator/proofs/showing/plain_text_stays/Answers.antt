use Rattle.std.proofs.Common.{◌≡◌, ℕ, ◌<◌, Bool, false, List, [], ◌∷◌, ◌++◌, All, Some, if◌then◌else◌, take, refl, ap, ◌∙◌, arith}
use Rattle.std.proofs.lemmas.List.Elements.{All-head, All-tail}
use Rattle.portmap_operator.specs.Showing.{IsPlain, character, escape, front, front_of, is_hidden, more, more_of, shown, shown_behind}
use Rattle.portmap_operator.proofs.showing.plain_text_stays.Goals as goal

small : (b : ℕ) → IsPlain b → b < 128
small b plain = grind arith

not_hidden : (b : ℕ) → IsPlain b → is_hidden b ≡ false
not_hidden b plain = grind arith

one : (b : ℕ) (bs : List ℕ) → b < 128 → character (b ∷ bs) ≡ Some (b, 1)
one b bs less = grind arith

front_stays : (b : ℕ) (bs : List ℕ) → IsPlain b → front (b ∷ bs) ≡ b ∷ []
front_stays b bs plain = ap (front_of (b ∷ bs)) (one b bs (small b plain))
    ∙ ap (λ (hidden : Bool). if hidden then escape b else take 1 (b ∷ bs)) (not_hidden b plain)

more_is_none : (b : ℕ) (bs : List ℕ) → IsPlain b → more (b ∷ bs) ≡ 0
more_is_none b bs plain = ap more_of (one b bs (small b plain))

stays : (text : List ℕ) → All IsPlain text → shown text ≡ text
stays [] plain = refl
stays (b ∷ bs) plain =
    let first = All-head IsPlain b bs plain in
    ap (λ (text : List ℕ). text ++ shown_behind (more (b ∷ bs)) bs) (front_stays b bs first)
    ∙ ap (λ (count : ℕ). b ∷ shown_behind count bs) (more_is_none b bs first)
    ∙ ap (λ (rest : List ℕ). b ∷ rest) (stays bs (All-tail IsPlain b bs plain))

pub returns : goal.returns
returns c = stays
