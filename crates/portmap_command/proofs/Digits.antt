-- One more digit.
use Rattle.std.specs.{Int.IsInRange, Str.Parse.{AllDigits, digits_value}}
use Rattle.std.proofs.Common.{◌≡◌, ℕ, ◌+◌, ◌-◌, ◌*◌, ◌<◌, ◌≤◌, List, length, get_or, take, arith}
use Rattle.std.proofs.{lemmas.Int.Digits.{digits_value_more, digits_more}, lemmas.List.length-take}
use Rattle.std.proofs.lemmas.Str.{digit_value_digit}
use Rattle.std.proofs.lemmas.Str.Parse.{digits_value_short, numerals_by_value, tells_digits}

pub record NextDigit (ds : List ℕ) (i : ℕ) : Type 0 where
  pub each : AllDigits 10 (take (i + 1) ds)
  pub value : digits_value 10 (take (i + 1) ds) ≡ digits_value 10 (take i ds) * 10 + (get_or ds i 0 - 48)
  pub small : digits_value 10 (take (i + 1) ds) < 1000000000

pub next_digit : (ds : List ℕ) (i : ℕ) → length ds ≤ 9 → i < length ds → AllDigits 10 (take i ds) → IsInRange 48 57 (get_or ds i 0)
    → NextDigit ds i
next_digit ds i short lt before digit =
    let value = digit_value_digit (get_or ds i 0) digit in
    let each : AllDigits 10 (take (i + 1) ds) = digits_more 10 ds i lt before (omega (arith, value, digit)) in
    record {
      each = each;
      value = omega (arith, digits_value_more 10 ds i lt, value);
      small = digits_value_short (numerals_by_value (AllDigits 10) tells_digits) (take (i + 1) ds) 9 each
          (omega (arith, length-take (i + 1) ds));
    }
