-- A scan for control characters finds none if and only if the bytes are a name, given their length.
use Rattle.std.specs.Prelude.{position}
use Rattle.std.proofs.Common.{◌≡◌, ℕ, ◌<◌, ◌≤◌, Bool, true, false, List, length, get_or, Some, None, sym, arith, rules}
use Rattle.std.proofs.{lemmas.Bool.Decides.nat_tests, lemmas.List.Elements.All-from_get_or}
use Rattle.std.proofs.{lemmas.List.Quantifiers.position-Some, lemmas.List.Sums.fails_before_first}
use Rattle.portmap_wire.specs.{Name.{is_control, IsNameByte, IsName}, declared.name.TheConstants.NAME_MOST}

-- Each element is in the range of a byte.
abbrev pub IsBytes : List ℕ → Type 0
IsBytes bytes = (i : ℕ) → get_or bytes i 0 < 256

passes : (b : ℕ) → b < 256 → is_control b ≡ false → IsNameByte b
passes b fits e = grind (arith, nat_tests)

fails : (b : ℕ) → IsNameByte b → is_control b ≡ true → ⊥
fails b name e = grind (arith, nat_tests)

pub no_control : (bytes : List ℕ) (at : ℕ) → Some at ≡ position is_control bytes → IsName bytes → ⊥
no_control bytes at e name =
    let found = position-Some is_control bytes at 0 (sym e) in
    fails (get_or bytes at 0) (name.each at 0 found.0) found.1

-- If the search returns `None`, each byte fails the test.
pub each_fails : (p : ℕ → Bool) (bytes : List ℕ) → None ≡ position p bytes → (i : ℕ) → i < length bytes → p (get_or bytes i 0) ≡ false
each_fails p bytes e i lt = search (rules, fails_before_first)

pub is_name : (bytes : List ℕ) → IsBytes bytes → 0 < length bytes → length bytes ≤ NAME_MOST → None ≡ position is_control bytes
    → IsName bytes
is_name bytes fits some short e = record {
  some = some;
  short = short;
  each = All-from_get_or IsNameByte bytes 0
      (λ i lt. passes (get_or bytes i 0) (fits i) (each_fails is_control bytes e i lt));
}
