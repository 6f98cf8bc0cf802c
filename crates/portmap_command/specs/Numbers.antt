-- Numbers as decimal digits: profile.
use Rattle.std.specs.{Prelude.{◌≡◌, ℕ, ◌<◌, ◌≤◌, List, length}, Str.Parse.{AllDigits, digits_value}}

-- The digits, at least one and at most `most`, write the number. Zeros may lead.
pub record WritesNumber (most : ℕ) (digits : List ℕ) (number : ℕ) : Type 0 where
  pub some : 0 < length digits
  pub short : length digits ≤ most
  pub each : AllDigits 10 digits
  pub value : digits_value 10 digits ≡ number

abbrev pub IsWithin : ℕ → ℕ → ℕ → Type 0
IsWithin least greatest number = (least ≤ number) × (number ≤ greatest)

-- The digits, one to nine, write a number within these bounds.
abbrev pub WritesWithin : ℕ → ℕ → List ℕ → ℕ → Type 0
WritesWithin least greatest digits number = WritesNumber 9 digits number × IsWithin least greatest number
