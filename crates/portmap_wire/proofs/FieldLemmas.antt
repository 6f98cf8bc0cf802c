-- The fields that are read are the fields that were written.
use Rattle.std.specs.Int.{w16, from_be_bytes}
use Rattle.std.proofs.Common.{◌≡◌, ℕ, ◌+◌, ◌^◌, ◌<◌, ◌≤◌, Bool, false, cond, ltb, List, [], ◌∷◌, ◌++◌, length, get_or}
use Rattle.std.proofs.Common.{take, drop, Option, Some, None, refl, sym, ap, subst, ◌∙◌, arith, append_assoc, rules}
use Rattle.std.proofs.{lemmas.Bool.ltb-false, lemmas.Grind.common_steps, lemmas.List.{take_at, drop_at}}
use Rattle.std.proofs.lemmas.List.{take-append-drop, drop-drop, length-append, length-take, length-drop}
use Rattle.std.proofs.lemmas.Nat.{be_bytes_2, from_be_bytes-to_be_bytes_2}
use Rattle.portmap_wire.specs.{Node.{Node, fields, be2}, RequestReading.{u16_in, fields_in}}
use Rattle.portmap_wire.proofs.NameLemmas.{IsBytes}

-- The numbers are in range.
pub record FitsFields (g : Node) : Type 0 where
  pub port : g.port < 2 ^ 16
  pub kind : g.kind < 2 ^ 8
  pub proto : g.proto < 2 ^ 8
  pub high : g.high < 2 ^ 16
  pub low : g.low < 2 ^ 16

pub guard_none : {A : Type 0} (b : Bool) (o : Option A) (y : A) → cond b None o ≡ Some y → (b ≡ false) × (o ≡ Some y)
guard_none b o y e = search rules

pub some_is : {A : Type 0} (x y : A) → Some x ≡ Some y → x ≡ y
some_is x y e = cc

-- ---- from the bytes to the fields

cut : (n i : ℕ) (q : List ℕ) → drop i q ≡ take n (drop i q) ++ drop (i + n) q
cut n i q = sym (take-append-drop n (drop i q)) ∙ ap (λ (t : List ℕ). take n (drop i q) ++ t) (drop-drop n i q)

in_part : (n i : ℕ) (q : List ℕ) → IsBytes q → IsBytes (take n (drop i q))
in_part n i q fits k = grind (arith, common_steps)

two : (q : List ℕ) (i : ℕ) → IsBytes q → i + 2 ≤ length q → be2 (u16_in q i) ≡ take 2 (drop i q)
two q i fits long = be_bytes_2 (take 2 (drop i q)) (u16_in q i) (omega (arith, length-take 2 (drop i q), length-drop i q))
    (in_part 2 i q fits) refl

pub u16_below : (q : List ℕ) (i : ℕ) → IsBytes q → u16_in q i < 2 ^ 16
u16_below q i fits = let h : IsBytes (take 2 (drop i q)) = in_part 2 i q fits in omega (arith, h 0, h 1)

pair : (q : List ℕ) → 4 ≤ length q → get_or q 2 0 ∷ get_or q 3 0 ∷ [] ≡ take 2 (drop 2 q)
pair q long = search rules

regroup : (a b c d e n f x r : List ℕ) → (a ++ b ++ c ++ d ++ e ++ n ++ f ++ x) ++ r
    ≡ a ++ (b ++ (c ++ (d ++ (e ++ (n ++ (f ++ (x ++ r)))))))
regroup a b c d e n f x r = simp append_assoc

-- A text is the concatenation of its parts.
in_parts : (q : List ℕ) (n x : ℕ) → q ≡ take 2 q
    ++ (take 2 (drop 2 q) ++ (take 2 (drop 4 q)
    ++ (take 2 (drop 6 q) ++ (take 2 (drop 8 q)
    ++ (take n (drop 10 q) ++ (take 2 (drop (10 + n) q) ++ (take x (drop (12 + n) q) ++ drop (12 + n + x) q)))))))
in_parts q n x =
    let e : 10 + n + 2 ≡ 12 + n = omega arith in
    let last : drop (10 + n) q ≡ take 2 (drop (10 + n) q) ++ (take x (drop (12 + n) q) ++ drop (12 + n + x) q) =
    cut 2 (10 + n) q ∙ ap (λ (t : List ℕ). take 2 (drop (10 + n) q) ++ t) (ap (λ (k : ℕ). drop k q) e ∙ cut x (12 + n) q) in
    cut 2 0 q ∙ ap (λ (t : List ℕ). take 2 q ++ t)
    (cut 2 2 q ∙ ap (λ (t : List ℕ). take 2 (drop 2 q) ++ t)
    (cut 2 4 q ∙ ap (λ (t : List ℕ). take 2 (drop 4 q) ++ t)
    (cut 2 6 q ∙ ap (λ (t : List ℕ). take 2 (drop 6 q) ++ t)
    (cut 2 8 q ∙ ap (λ (t : List ℕ). take 2 (drop 8 q) ++ t)
    (cut n 10 q ∙ ap (λ (t : List ℕ). take n (drop 10 q) ++ t) last)))))

-- The node that the first bytes of `q` encode.
pub read_at : (q : List ℕ) → Node
read_at q = record {
  port = u16_in q 0;
  kind = get_or q 2 0;
  proto = get_or q 3 0;
  high = u16_in q 4;
  low = u16_in q 6;
  name = take (u16_in q 8) (drop 10 q);
  extra = take (u16_in q (10 + u16_in q 8)) (drop (12 + u16_in q 8) q);
}

spelled : (q : List ℕ) → IsBytes q → 12 + u16_in q 8 + u16_in q (10 + u16_in q 8) ≤ length q
    → q ≡ fields (read_at q) ++ drop (12 + u16_in q 8 + u16_in q (10 + u16_in q 8)) q
unfolding read_at
spelled q fits long =
    let n = u16_in q 8 in
    let x = u16_in q (10 + n) in
    let name_len : length (take n (drop 10 q)) ≡ n = omega (arith, length-take n (drop 10 q), length-drop 10 q) in
    let extra_len : length (take x (drop (12 + n) q)) ≡ x = omega (arith, length-take x (drop (12 + n) q), length-drop (12 + n) q) in
    let five : be2 (length (take n (drop 10 q))) ≡ take 2 (drop 8 q) = ap be2 name_len ∙ two q 8 fits (omega arith) in
    let seven : be2 (length (take x (drop (12 + n) q))) ≡ take 2 (drop (10 + n) q) = ap be2 extra_len ∙ two q (10 + n) fits (omega arith) in
    let one = two q 0 fits (omega arith) in
    let three = two q 4 fits (omega arith) in
    let four = two q 6 fits (omega arith) in
    let both = pair q (omega arith) in
    let parts : fields (read_at q) ≡ take 2 q ++ take 2 (drop 2 q) ++ take 2 (drop 4 q) ++ take 2 (drop 6 q) ++ take 2 (drop 8 q)
    ++ take n (drop 10 q) ++ take 2 (drop (10 + n) q) ++ take x (drop (12 + n) q) = search rules in
    in_parts q n x ∙ sym (ap (λ (t : List ℕ). t ++ drop (12 + n + x) q) parts
    ∙ regroup (take 2 q) (take 2 (drop 2 q)) (take 2 (drop 4 q)) (take 2 (drop 6 q)) (take 2 (drop 8 q)) (take n (drop 10 q))
    (take 2 (drop (10 + n) q)) (take x (drop (12 + n) q)) (drop (12 + n + x) q))

pub record Takes (q : List ℕ) (g : Node) (rest : List ℕ) : Type 0 where
  pub text : q ≡ fields g ++ rest
  pub fits : FitsFields g
  pub name_fits : IsBytes g.name

pub fields_take : (q : List ℕ) (g : Node) (rest : List ℕ) → IsBytes q → fields_in q ≡ Some (g, rest) → Takes q g rest
unfolding fields_in read_at
fields_take q g rest fits e =
    let a = guard_none (ltb (length q) 12) _ (g, rest) e in
    let b = guard_none (ltb (length q) (12 + u16_in q 8)) _ (g, rest) a.1 in
    let c = guard_none (ltb (length q) (12 + u16_in q 8 + u16_in q (10 + u16_in q 8))) _ (g, rest) b.1 in
    let long : 12 + u16_in q 8 + u16_in q (10 + u16_in q 8) ≤ length q = ltb-false _ _ c.0 in
    let is : ◌≡◌ {A = Node × List ℕ} (read_at q, drop (12 + u16_in q 8 + u16_in q (10 + u16_in q 8)) q) (g, rest) = some_is _ _ c.1 in
    let all : Takes q (read_at q) (drop (12 + u16_in q 8 + u16_in q (10 + u16_in q 8)) q) = record {
      text = spelled q fits long;
      fits = record { port = u16_below q 0 fits; kind = fits 2; proto = fits 3; high = u16_below q 4 fits; low = u16_below q 6 fits };
      name_fits = in_part (u16_in q 8) 10 q fits;
    } in
    subst (λ (p : Node × List ℕ). Takes q p.0 p.1) is all

-- ---- from the fields to the bytes

head : Node → List ℕ
head g = be2 g.port ++ (g.kind ∷ g.proto ∷ []) ++ be2 g.high ++ be2 g.low ++ be2 (length g.name)

split_fields : (g : Node) (rest : List ℕ) → fields g ++ rest ≡ (head g ++ g.name) ++ (be2 (length g.extra) ++ (g.extra ++ rest))
unfolding head
split_fields g rest = grind (arith, common_steps)

at_extra : (q front more : List ℕ) (x i : ℕ) → x < 2 ^ 16 → length front ≡ i → q ≡ front ++ (be2 x ++ more)
    → (u16_in q i ≡ x) × (drop (i + 2) q ≡ more)
at_extra q front more x i small len e =
    let d : drop i q ≡ be2 x ++ more = ap (λ (t : List ℕ). drop i t) e ∙ drop_at front (be2 x ++ more) i len in (
      ap (λ (t : List ℕ). from_be_bytes w16 (take 2 t)) d ∙ from_be_bytes-to_be_bytes_2 x small,
      sym (drop-drop 2 i q)
          ∙ ap (λ (t : List ℕ). drop 2 t) d,
    )

three : (a b c d : List ℕ) → a ++ b ++ c ++ d ≡ a ++ (b ++ (c ++ d))
three a b c d = simp append_assoc

-- `fields_in` yields `g` if each field of `g` is at its offset.
reads : (q : List ℕ) (g : Node) (rest : List ℕ) (n x : ℕ) → 12 + n + x ≤ length q → u16_in q 8 ≡ n → u16_in q (10 + n) ≡ x
    → u16_in q 0 ≡ g.port → get_or q 2 0 ≡ g.kind → get_or q 3 0 ≡ g.proto → u16_in q 4 ≡ g.high → u16_in q 6 ≡ g.low
    → take n (drop 10 q) ≡ g.name → take x (drop (12 + n) q) ≡ g.extra → drop (12 + n + x) q ≡ rest → fields_in q ≡ Some (g, rest)
unfolding fields_in
reads q g rest n x long en ex p0 p1 p2 p3 p4 p5 p6 p7 = search rules

pub fields_again : (g : Node) (rest : List ℕ) → FitsFields g → length g.name < 2 ^ 16 → length g.extra < 2 ^ 16
    → fields_in (fields g ++ rest) ≡ Some (g, rest)
unfolding head
fields_again g rest fits name_fits extra_fits =
    let q = fields g ++ rest in
    let n = length g.name in
    let x = length g.extra in
    let prefix_len : length (head g ++ g.name) ≡ 10 + n = length-append (head g) g.name in
    let parts = split_fields g rest in
    let extra = at_extra q (head g ++ g.name) (g.extra ++ rest) x (10 + n) extra_fits prefix_len parts in
    let e12 : 10 + n + 2 ≡ 12 + n = omega arith in
    let behind : drop (12 + n) q ≡ g.extra ++ rest = ap (λ (k : ℕ). drop k q) (sym e12) ∙ extra.1 in
    let long : 12 + n + x ≤ length q = search (rules, length-append) in
    reads q g rest n x long (from_be_bytes-to_be_bytes_2 n name_fits) extra.0
    (from_be_bytes-to_be_bytes_2 g.port fits.port) refl refl (from_be_bytes-to_be_bytes_2 g.high fits.high)
    (from_be_bytes-to_be_bytes_2 g.low fits.low)
    (ap (λ (t : List ℕ). take n t) (three g.name (be2 x) g.extra rest) ∙ take_at g.name (be2 x ++ (g.extra ++ rest)) n refl)
    (ap (λ (t : List ℕ). take x t) behind ∙ take_at g.extra rest x refl)
    (sym (drop-drop x (12 + n) q) ∙ ap (λ (t : List ℕ). drop x t) behind ∙ drop_at g.extra rest x refl)
