-- The digits at the end of a line determine where its port begins, hence a line has at most one reading.
use Rattle.std.specs.{Int.IsInRange, Prelude.{codes, ◌≢◌, MatchBool}, Str.Parse.{AllDigits, digits_value}}
use Rattle.std.proofs.Common.{◌≡◌, ℕ, ◌+◌, ◌-◌, ◌*◌, ◌<◌, ◌≤◌, Bool, true, false, List, ◌++◌, length, get_or, take}
use Rattle.std.proofs.{Common.{drop, refl, sym, ap, subst, ◌∙◌, arith, Ok, Err, inl, inr, rules}, lemmas.Bool.cases_lt}
use Rattle.std.proofs.{lemmas.Int.Digits.digits_value_more, lemmas.List.{take_at, drop_at, take-append-drop}}
use Rattle.std.proofs.lemmas.List.{length-append, get_or-drop, length-drop, get_or_append_left, get_or-append_right}
use Rattle.std.proofs.lemmas.List.{get_or-append-add, append_cancel_left, append_cancel_right}
use Rattle.std.proofs.{lemmas.Str.digit_value_digit, lemmas.Str.Parse.{numerals_by_value, tells_by_index, digit_at}}
use Rattle.portmap_wire.specs.ListReading.{WritesPort, HasShape, ReadsLine, HasNoReading, EndsInDigits}
use Rattle.portmap_wire.specs.{ListReading.LinesHaveOneReading, Name.IsName, RequestReading.GivesName}
use Rattle.portmap_wire.specs.{declared.list.Line.Line, declared.name.NameFault.NameFault}
use Rattle.portmap_wire.specs.declared.name.NameFault.TheVariants as name_fault

-- ---- digits

pub record NextDigit (ds : List ℕ) (i : ℕ) : Type 0 where
  pub digit : IsInRange 48 57 (get_or ds i 0)
  pub value : digits_value 10 (take (i + 1) ds) ≡ digits_value 10 (take i ds) * 10 + (get_or ds i 0 - 48)
  pub small : digits_value 10 (take (i + 1) ds) < 100000

pub next_digit : (ds : List ℕ) (i : ℕ) → AllDigits 10 ds → length ds ≤ 5 → i < length ds → NextDigit ds i
next_digit ds i each short lt =
    let d = digit_at ds i each lt in
    record {
      digit = d;
      value = omega (arith, digits_value_more 10 ds i lt, digit_value_digit (get_or ds i 0) d);
      small = search rules;
    }

pub digits_behind : (text : List ℕ) (start : ℕ) → EndsInDigits text start → AllDigits 10 (drop start text)
digits_behind text start ends = (numerals_by_value _ tells_by_index).to (drop start text) (λ i lt.
    rw (get_or-drop start text i 0) (ends.digits (start + i) (omega arith) (omega (arith, length-drop start text))))

-- ---- where the digits begin

pub stem : List ℕ → List ℕ
stem name = (codes "name " ++ name) ++ codes " at port "

-- If `front` ends in a blank and digits follow it, the last digits begin at its end.
pub same_split : (text front digits : List ℕ) (n start : ℕ) → text ≡ front ++ digits → AllDigits 10 digits → length front ≡ n + 1
    → get_or front n 0 ≡ 32 → EndsInDigits text start → n + 1 ≡ start
same_split text front digits n start e each len last ends =
    let total : length text ≡ n + 1 + length digits = omega (arith, ap length e, length-append front digits) in
    let blank : get_or text n 0 ≡ 32 = ap (λ (t : List ℕ). get_or t n 0) e ∙ get_or_append_left front digits 0 n (omega arith) ∙ last in
    let within : start ≤ length text = ends.within in
    elim (cases_lt (n + 1) start) [
      | inl lt ↦
          let k = start - 1 in
          let is : get_or text k 0 ≡ get_or digits (k - (n + 1)) 0 = search (rules, get_or-append_right) in
          let d = digit_at digits (k - (n + 1)) each (omega arith) in
          absurd (let low : 57 < get_or text k 0 = ends.before k (omega arith) (omega (arith, is, d)) in omega (arith, is, d, low))
      | inr le ↦ elim (cases_lt start (n + 1)) [
        | inl less ↦ search rules
        | inr more ↦ omega arith
      ]
    ]

pub record Split (text name digits : List ℕ) (start : ℕ) : Type 0 where
  pub front : take start text ≡ stem name
  pub back : drop start text ≡ digits

pub at_split : (text name digits : List ℕ) (start : ℕ) → text ≡ codes "name " ++ name ++ codes " at port " ++ digits → AllDigits 10 digits
    → EndsInDigits text start → Split text name digits start
unfolding stem
at_split text name digits start e each ends =
    let n = length (codes "name " ++ name) + 8 in
    let e2 : text ≡ stem name ++ digits = e in
    let len : length (stem name) ≡ n + 1 = omega (arith, length-append (codes "name " ++ name) (codes " at port ")) in
    let place : n + 1 ≡ start = search (rules, get_or-append-add, same_split) in
    record {
      front = ap (λ (t : List ℕ). take start t) e2 ∙ take_at (stem name) digits start (len ∙ place);
      back = ap (λ (t : List ℕ). drop start t) e2 ∙ drop_at (stem name) digits start (len ∙ place);
    }

pub ends_behind : (text name digits : List ℕ) → text ≡ codes "name " ++ name ++ codes " at port " ++ digits → AllDigits 10 digits
    → EndsInDigits text (length (stem name))
unfolding stem
ends_behind text name digits e each =
    let n = length (codes "name " ++ name) + 8 in
    let e2 : text ≡ stem name ++ digits = e in
    let len : length (stem name) ≡ n + 1 = omega (arith, length-append (codes "name " ++ name) (codes " at port ")) in
    let total : length text ≡ n + 1 + length digits = omega (arith, ap length e2, length-append (stem name) digits) in
    let blank : get_or text n 0 ≡ 32 = ap (λ (t : List ℕ). get_or t n 0) e2 ∙ get_or_append_left (stem name) digits 0 n (omega arith)
    ∙ get_or-append-add (codes "name " ++ name) (codes " at port ") 8 0 in
    record {
      within = omega arith;
      digits = search (rules, digit_at, get_or-append_right);
      before = search rules;
    }

-- ---- one reading

pub record SameShape (a b : List ℕ) (p q : ℕ) : Type 0 where
  pub name : a ≡ b
  pub port : p ≡ q

pub same_name : (a b : List ℕ) → stem a ≡ stem b → a ≡ b
unfolding stem
same_name a b e = append_cancel_left (codes "name ") a b
    (append_cancel_right (codes "name " ++ a) (codes "name " ++ b) (codes " at port ") e)

pub one_shape : (text a b : List ℕ) (p q : ℕ) → HasShape text a p → HasShape text b q → SameShape a b p q
one_shape text a b p q x y =
    let ends = ends_behind text a x.digits x.text_is x.port_is.each in
    let one = at_split text a x.digits (length (stem a)) x.text_is x.port_is.each ends in
    let two = at_split text b y.digits (length (stem a)) y.text_is y.port_is.each ends in
    record {
      name = same_name a b (sym one.front ∙ two.front);
      port = sym x.port_is.value ∙ ap (digits_value 10) (sym one.back ∙ two.back) ∙ y.port_is.value;
    }

pub one_reading : LinesHaveOneReading
one_reading text a b x y = let s = one_shape text a.name b.name a.port b.port x.shape y.shape in λ i.
    record { name = s.name i; port = s.port i }

-- ---- results of the search for the parts

pub no_suffix : (text front : List ℕ) (start : ℕ) → EndsInDigits text start → front ≡ take start text
    → ((head : List ℕ) → front ≢ head ++ codes " at port ") → (name : List ℕ) (port : ℕ) → HasShape text name port → ⊥
unfolding stem
no_suffix text front start ends e none name port x =
    none (codes "name " ++ name) (e ∙ (at_split text name x.digits start x.text_is x.port_is.each ends).front)

pub no_prefix : (text front head : List ℕ) (start : ℕ) → EndsInDigits text start → front ≡ take start text
    → front ≡ head ++ codes " at port " → ((rest : List ℕ) → head ≢ codes "name " ++ rest) → (name : List ℕ) (port : ℕ)
    → HasShape text name port → ⊥
unfolding stem
no_prefix text front head start ends e suffix none name port x =
    none name (append_cancel_right head (codes "name " ++ name) (codes " at port ")
    (sym suffix ∙ e ∙ (at_split text name x.digits start x.text_is x.port_is.each ends).front))

pub no_port : (text back : List ℕ) (start : ℕ) → EndsInDigits text start → back ≡ drop start text → ((port : ℕ) → WritesPort back port → ⊥)
    → (name : List ℕ) (port : ℕ) → HasShape text name port → ⊥
no_port text back start ends e none name port x =
    none port (subst (λ (t : List ℕ). WritesPort t port)
    (sym (e ∙ (at_split text name x.digits start x.text_is x.port_is.each ends).back)) x.port_is)

pub has_shape : (text front back head name : List ℕ) (start port : ℕ) → front ≡ take start text → back ≡ drop start text
    → front ≡ head ++ codes " at port " → head ≡ codes "name " ++ name → WritesPort back port → HasShape text name port
has_shape text front back head name start port e1 e2 suffix prefix port_is = record {
  digits = back;
  text_is = sym (take-append-drop start text) ∙ (λ i. sym e1 i ++ sym e2 i)
      ∙ ap (λ (t : List ℕ). t ++ back) (suffix ∙ ap (λ (t : List ℕ). t ++ codes " at port ") prefix);
  port_is = port_is;
}

-- A line whose name is refused, other than for memory, has no reading.
pub refused : (text name : List ℕ) (port : ℕ) (f : NameFault) → (f ≡ name_fault.NoMemory → ⊥)
    → (IsName name → GivesName {X = List ℕ} (Err f) (Ok name)) → HasShape text name port → HasNoReading text
refused text name port f other only shape line r =
    never f other (only (subst IsName (one_shape text line.name name line.port port r.shape shape).name r.name))
  where
    never : (f : NameFault) → (f ≡ name_fault.NoMemory → ⊥) → GivesName {X = List ℕ} (Err f) (Ok name) → ⊥
    never name_fault.NoMemory other g = other refl
    never name_fault.Empty other g = absurd cc
    never name_fault.TooLong other g = absurd cc
    never (name_fault.BadByte at) other g = absurd cc

-- A text of a line's shape is a line if and only if its name is a name.
pub named_line : (text name : List ℕ) (port : ℕ) (b : Bool) → HasShape text name port → MatchBool b (IsName name) (IsName name → ⊥)
    → MatchBool b ((line : Line) × ReadsLine text line) (HasNoReading text)
named_line text name port true shape is = (record { name = name; port = port }, record { shape = shape; name = is })
named_line text name port false shape none = λ line r.
    none (subst IsName (one_shape text line.name name line.port port r.shape shape).name r.name)
