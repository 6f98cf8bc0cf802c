-- Creations. ERTS User's Guide: a registered node gets a creation (ALIVE2_X_RESP, ALIVE2_RESP). Profile: its choice.
use Rattle.std.specs.Prelude.{◌≢◌, ℕ, ◌+◌, ◌-◌, ◌%◌, ◌<◌, ◌≤◌, ◌^◌, ◌==◌, ◌&&◌, nat_le, Option, Some, None, MatchBool}
use Rattle.std.specs.Prelude.{if◌then◌else◌}
use Rattle.portmap_wire.specs.Reply.{is_short}
use Rattle.portmap_table.specs.declared.creation.TheConstants.{SHORT_MOST, COUNTER_LEAST}

-- A short reply carries a creation of 1 to 3, a wide reply any larger creation that fits four bytes.
abbrev pub IsCreationFor : ℕ → ℕ → Type 0
IsCreationFor high c = MatchBool (is_short high) ((1 ≤ c) × (c ≤ SHORT_MOST)) ((COUNTER_LEAST ≤ c) × (c < 2 ^ 32))

-- A name may get creation `c`: it is in the range of the reply, and is not remembered for the name.
pub record IsLegalCreation (high : ℕ) (remembered : Option ℕ) (c : ℕ) : Type 0 where
  pub range : IsCreationFor high c
  pub fresh : remembered ≢ Some c

-- ---- the choice among legal creations

-- The next value of the counter, which wraps to `COUNTER_LEAST`.
abbrev pub successor : ℕ → ℕ
successor n = if n == 2 ^ 32 - 1 then COUNTER_LEAST else n + 1

-- The counter, or its successor if the counter is the creation remembered.
abbrev pub wide_choice : ℕ → Option ℕ → ℕ
wide_choice counter None = counter
wide_choice counter (Some last) = if counter == last then successor counter else counter

-- Cycles through 1, 2 and 3, beginning with 1.
abbrev pub short_choice : Option ℕ → ℕ
short_choice None = 1
short_choice (Some last) = if nat_le 1 last && nat_le last SHORT_MOST then last % SHORT_MOST + 1 else 1

abbrev pub choice : ℕ → ℕ → Option ℕ → ℕ
choice counter high remembered = if is_short high then short_choice remembered else wide_choice counter remembered

-- A short reply leaves the counter unchanged.
abbrev pub counter_after : ℕ → ℕ → ℕ → ℕ
counter_after counter high taken = if is_short high then counter else successor taken

abbrev pub IsCounter : ℕ → Type 0
IsCounter counter = (COUNTER_LEAST ≤ counter) × (counter < 2 ^ 32)

-- The choice is always legal.
abbrev pub ChoiceIsLegal : Type 0
ChoiceIsLegal = (counter high : ℕ) (remembered : Option ℕ) → IsCounter counter
    → IsLegalCreation high remembered (choice counter high remembered)
