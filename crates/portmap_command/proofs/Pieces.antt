-- A text that is written in pieces.
use Rattle.std.specs.Io.KnownBytes.{Appends}
use Rattle.std.proofs.Common.{◌≡◌, ℕ, ◌+◌, ◌<◌, List, [], ◌++◌, length, take, Bool, true, false, Option, Some, None}
use Rattle.std.proofs.{Common.{sym, ap, subst, ◌∙◌, append_assoc, arith}, Math.Seq.take-append-add}
use Rattle.std.proofs.lemmas.List.{append-nil, length-append, take-append-le}
use Rattle.portmap_command.specs.Errors.{IsWritten}

-- ---- bytes that grew

appends_none : (a : Option (List ℕ)) → Appends a a []
appends_none None = tt
appends_none (Some xs) = sym (append-nil xs)

appends_more : (a b c : Option (List ℕ)) (first more : List ℕ) → Appends a b first → Appends b c more → Appends a c (first ++ more)
appends_more None b c first more e f = tt
appends_more (Some xs) None c first more e f = absurd e
appends_more (Some xs) (Some ys) None first more e f = absurd f
appends_more (Some xs) (Some ys) (Some zs) first more e f = f ∙ ap (λ (l : List ℕ). l ++ more) e ∙ append_assoc xs first more

-- ---- two pieces

written_more : (whole : Bool) (a b c : Option (List ℕ)) (first more : List ℕ) → IsWritten first true a b → IsWritten more whole b c
    → IsWritten (first ++ more) whole a c
written_more true a b c first more e f = appends_more a b c first more e f
written_more false a b c first more e f =
    let lt : length first + f.0 < length (first ++ more) = omega (arith, length-append first more, f.1) in
    (length first + f.0, lt, subst (Appends a c) (sym (take-append-add first more f.0)) (appends_more a b c first (take f.0 more) e f.2))

prefix_written : (a b : Option (List ℕ)) (first more : List ℕ) → IsWritten first false a b → IsWritten (first ++ more) false a b
prefix_written a b first more e =
    let lt : e.0 < length (first ++ more) = omega (arith, length-append first more, e.1) in
    (e.0, lt, subst (Appends a b) (sym (take-append-le e.0 first more (omega (arith, e.1)))) e.2)

-- ---- any number of them

-- All of the text was written except the rest.
pub record IsLeft (text rest : List ℕ) (old now : Option (List ℕ)) : Type 0 where
  pub with_rest : (whole : Bool) (new : Option (List ℕ)) → IsWritten rest whole now new → IsWritten text whole old new

pub left_at_first : (text : List ℕ) (old : Option (List ℕ)) → IsLeft text text old old
left_at_first text old = record { with_rest = λ whole new written. written }

pub left_more : (text rest first more : List ℕ) (old now next : Option (List ℕ)) → rest ≡ first ++ more → IsLeft text rest old now
    → IsWritten first true now next → IsLeft text more old next
left_more text rest first more old now next e left written = record {
  with_rest = λ whole new rest_written.
      left.with_rest whole new (subst (λ (t : List ℕ). IsWritten t whole now new) (sym e)
      (written_more whole now next new first more written rest_written));
}

pub left_at_failure : (text rest first more : List ℕ) (old now next : Option (List ℕ)) → rest ≡ first ++ more → IsLeft text rest old now
    → IsWritten first false now next → IsWritten text false old next
left_at_failure text rest first more old now next e left written =
    left.with_rest false next (subst (λ (t : List ℕ). IsWritten t false now next) (sym e) (prefix_written now next first more written))

pub none_left : (text rest : List ℕ) (old now : Option (List ℕ)) → rest ≡ [] → IsLeft text rest old now → IsWritten text true old now
none_left text rest old now e left =
    left.with_rest true now (subst (λ (t : List ℕ). IsWritten t true now now) (sym e) (appends_none now))
