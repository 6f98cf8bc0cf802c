-- Texts on standard error: profile.
use Rattle.std.specs.Io.KnownBytes.{Appends}
use Rattle.std.specs.List.{concat}
use Rattle.std.specs.Prelude.{◌≡◌, ℕ, ◌<◌, ◌≤◌, List, [], ◌∷◌, ◌++◌, length, take, codes, Bool, true, false, Option, ◌⊎◌}
use Rattle.portmap_link.specs.Adapters.{writing_inner, writing_puts, writing_broken}
use Rattle.portmap_link.specs.declared.adapters.writer.Writing.{Writing}
use Rattle.portmap_command.specs.declared.errors.TheConstants.{PUTS_MOST}

-- All of the text was written (`true`), or a proper prefix of it (`false`).
abbrev pub IsWritten : List ℕ → Bool → Option (List ℕ) → Option (List ℕ) → Type 0
IsWritten text true old new = Appends old new text
IsWritten text false old new = (count : ℕ) × (count < length text) × Appends old new (take count text)

-- Errors accept no more: a write failed, or the limit on puts is reached.
abbrev pub IsSpent : {E : Type 0} → Writing E → Type 0
IsSpent errors = (writing_broken errors ≡ true) ⊎ (PUTS_MOST ≤ length (writing_puts errors))

-- Errors got this text and nothing else: all of it, or a prefix if no more could be written.
abbrev pub IsPrinted : {E : Type 0} → (E → Option (List ℕ)) → List ℕ → Writing E → Writing E → Type 0
IsPrinted contents text old new = (whole : Bool) × IsWritten text whole (contents (writing_inner old)) (contents (writing_inner new))
    × (whole ≡ false → IsSpent new)

-- ---- lines that name a file

abbrev pub file_line : List ℕ → List ℕ
file_line path = codes "epmd: in " ++ path ++ codes "\n"

abbrev pub reason_line : List ℕ → List ℕ → List ℕ
reason_line path reason = concat (codes "epmd: " ∷ path ∷ codes ": " ∷ reason ∷ codes "\n" ∷ [])
