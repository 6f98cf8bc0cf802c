use borrow.Author.Count.{below_more}
use Rattle.std.specs.List.{list_all}
use Rattle.std.proofs.Common.{◌≡◌, ℕ, zero, suc, ◌+◌, ◌*◌, ◌/◌, ◌%◌, ◌^◌, ◌<◌, ◌≤◌, Bool, true, false, ◌&&◌, List, [], ◌∷◌, ◌++◌}
use Rattle.std.proofs.Common.{All, codes, get_or, take, Option, Some, refl, arith}
use Rattle.std.specs.Prelude.{nat_le, nat_lt}
use Rattle.std.proofs.lemmas.Bool.{cond_both, ltb-true}
use Rattle.std.proofs.lemmas.List.{Elements.{All-append, All-cons, All-head, All-nil, All-tail}, Sums.AllPass-from_list_all}
use Rattle.portmap_record.specs.Transcript.{hex_digit, hex_digits}
use Rattle.portmap_operator.specs.Showing.{IsNoControl, continues, escape, front, front_of, is_hidden, is_of_three, is_within}
use Rattle.portmap_operator.specs.Showing.{more, shown_behind}
use Rattle.portmap_operator.proofs.showing.controls_are_escaped.Goals as goal

-- ---- escapes

printable : (byte : ℕ) → (nat_le 32 byte && nat_le byte 126) ≡ true → IsNoControl byte
printable byte is = grind arith

text_fine : (text : List ℕ) → list_all (λ byte. nat_le 32 byte && nat_le byte 126) text ≡ true → All IsNoControl text
text_fine text is = λ k d within. printable (get_or text k d)
    (AllPass-from_list_all (λ byte. nat_le 32 byte && nat_le byte 126) text is k d within)

digit : (value : ℕ) → value < 16 → IsNoControl (hex_digit value)
digit value less = text_fine (codes "0123456789abcdef") refl value 0 less

two_digits : (byte : ℕ) → byte < 256 → All IsNoControl (hex_digits byte)
two_digits byte less = All-cons IsNoControl (hex_digit (byte / 16)) (hex_digit (byte % 16) ∷ []) (digit (byte / 16) (omega (arith, less)))
    (All-cons IsNoControl (hex_digit (byte % 16)) [] (digit (byte % 16) (omega arith)) (All-nil IsNoControl))

joined : (a b : List ℕ) → All IsNoControl a → All IsNoControl b → All IsNoControl (a ++ b)
joined a b first second = All-append IsNoControl a b first second

longer : (code : ℕ) → code < 2 ^ 24
    → All IsNoControl (codes "\\U00" ++ hex_digits (code / 65536) ++ hex_digits (code / 256 % 256) ++ hex_digits (code % 256))
longer code less = joined (codes "\\U00" ++ hex_digits (code / 65536) ++ hex_digits (code / 256 % 256)) (hex_digits (code % 256))
    (joined (codes "\\U00" ++ hex_digits (code / 65536)) (hex_digits (code / 256 % 256))
    (joined (codes "\\U00") (hex_digits (code / 65536)) (text_fine (codes "\\U00") refl) (two_digits (code / 65536) (omega (arith, less))))
    (two_digits (code / 256 % 256) (omega arith)))
    (two_digits (code % 256) (omega arith))

middle : (code : ℕ) → All IsNoControl (codes "\\u" ++ hex_digits (code / 256 % 256) ++ hex_digits (code % 256))
middle code = joined (codes "\\u" ++ hex_digits (code / 256 % 256)) (hex_digits (code % 256))
    (joined (codes "\\u") (hex_digits (code / 256 % 256)) (text_fine (codes "\\u") refl) (two_digits (code / 256 % 256) (omega arith)))
    (two_digits (code % 256) (omega arith))

escape_fine : (code : ℕ) → code < 2 ^ 24 → All IsNoControl (escape code)
escape_fine code less = cond_both (nat_lt code 256) _ _ (λ (text : List ℕ). All IsNoControl text)
    (λ e. joined (codes "\\x") (hex_digits code) (text_fine (codes "\\x") refl) (two_digits code (ltb-true code 256 e)))
    (λ _. cond_both (nat_lt code 65536) _ _ (λ (text : List ℕ). All IsNoControl text) (λ _. middle code) (λ _. longer code less))

-- ---- characters

low : (byte : ℕ) → byte < 128 → is_hidden byte ≡ false → IsNoControl byte
low byte less seen = grind arith

above : (byte : ℕ) → 128 ≤ byte → IsNoControl byte
above byte least = grind arith

high : (count : ℕ) (bytes : List ℕ) → ((k : ℕ) → k < count → 128 ≤ get_or bytes k 0) → All IsNoControl (take count bytes)
high zero bytes h = All-nil IsNoControl
high (suc count) [] h = All-nil IsNoControl
high (suc count) (byte ∷ bytes) h = All-cons IsNoControl byte (take count bytes) (above byte (h 0 (omega arith)))
    (high count bytes (λ k less. h (suc k) (omega (arith, less))))

-- Each of the first bytes is at least 128, by the test that begins a character of that length.
ahead : (n : ℕ) (bytes : List ℕ) → ((k : ℕ) → k < n → 128 ≤ get_or bytes k 0) → 128 ≤ get_or bytes n 0 → (k : ℕ) → k < n + 1
    → 128 ≤ get_or bytes k 0
ahead n bytes = below_more (λ (k : ℕ). 128 ≤ get_or bytes k 0) n

of_two : (a b : ℕ) (rest : Bool) → (is_within a 192 223 && continues b && rest) ≡ true → (128 ≤ a) × (128 ≤ b)
of_two a b rest is = (grind arith, grind arith)

of_three : (a b c : ℕ) (rest : Bool) → (is_within a 224 239 && continues b && continues c && rest) ≡ true
    → (128 ≤ a) × (128 ≤ b) × (128 ≤ c)
of_three a b c rest is = (grind arith, grind arith, grind arith)

of_four : (a b c d : ℕ) (rest : Bool) → ((is_within a 240 247 && continues b && continues c && continues d) && rest) ≡ true
    → (128 ≤ a) × (128 ≤ b) × (128 ≤ c) × (128 ≤ d)
of_four a b c d rest is = (grind arith, grind arith, grind arith, grind arith)

each_fine : (bytes : List ℕ) (code size : ℕ) → code < 2 ^ 24 → (is_hidden code ≡ false → All IsNoControl (take size bytes))
    → All IsNoControl (front_of bytes (Some (code, size)))
each_fine bytes code size less h = cond_both (is_hidden code) (escape code) (take size bytes) (λ (text : List ℕ). All IsNoControl text)
    (λ _. escape_fine code less) h

front_fine : (a : ℕ) (bytes : List ℕ) → a < 256 → All IsNoControl (front (a ∷ bytes))
front_fine a bytes less =
    let b = get_or bytes 0 0 in
    let c = get_or bytes 1 0 in
    let d = get_or bytes 2 0 in
    let two = a % 32 * 64 + b % 64 in
    let three = a % 16 * 4096 + b % 64 * 64 + c % 64 in
    let four = a % 8 * 262144 + b % 64 * 4096 + c % 64 * 64 + d % 64 in
    let all = a ∷ bytes in
    let Fine = λ (found : Option (ℕ × ℕ)). All IsNoControl (front_of all found) in
    cond_both (nat_lt a 128) _ _ Fine
    (λ e. each_fine all a 1 (omega (arith, less))
    (λ seen. All-cons IsNoControl a [] (low a (ltb-true a 128 e) seen) (All-nil IsNoControl)))
    (λ _. cond_both (is_within a 192 223 && continues b && nat_le 128 two) _ _ Fine
    (λ e. let h = of_two a b (nat_le 128 two) e in each_fine all two 2 (omega arith)
    (λ _. high 2 all (ahead 1 all (ahead 0 all none h.0) h.1)))
    (λ _. cond_both (is_within a 224 239 && continues b && continues c && is_of_three three) _ _ Fine
    (λ e. let h = of_three a b c (is_of_three three) e in each_fine all three 3 (omega arith)
    (λ _. high 3 all (ahead 2 all (ahead 1 all (ahead 0 all none h.0) h.1) h.2)))
    (λ _. cond_both ((is_within a 240 247 && continues b && continues c && continues d) && is_within four 65536 1114111) _ _ Fine
    (λ e. let h = of_four a b c d (is_within four 65536 1114111) e in each_fine all four 4 (omega arith)
    (λ _. high 4 all (ahead 3 all (ahead 2 all (ahead 1 all (ahead 0 all none h.0) h.1) h.2) h.3)))
    (λ _. escape_fine a (omega (arith, less))))))
  where
    none : (k : ℕ) → k < 0 → 128 ≤ get_or (a ∷ bytes) k 0
    none k below = absurd (omega (arith, below))

-- ---- all of them

fine : (count : ℕ) (bytes : List ℕ) → All (λ byte. byte < 2 ^ 8) bytes → All IsNoControl (shown_behind count bytes)
fine zero [] small = All-nil IsNoControl
fine (suc count) [] small = All-nil IsNoControl
fine zero (byte ∷ bytes) small = joined (front (byte ∷ bytes)) (shown_behind (more (byte ∷ bytes)) bytes)
    (front_fine byte bytes (All-head (λ byte. byte < 2 ^ 8) byte bytes small))
    (fine (more (byte ∷ bytes)) bytes (All-tail (λ byte. byte < 2 ^ 8) byte bytes small))
fine (suc count) (byte ∷ bytes) small = fine count bytes (All-tail (λ byte. byte < 2 ^ 8) byte bytes small)

pub returns : goal.returns
returns c = λ bytes small. fine 0 bytes small
