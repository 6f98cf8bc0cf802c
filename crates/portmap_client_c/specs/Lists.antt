-- The lines of a list, one after another.
use Rattle.std.specs.Prelude.{◌≡◌, ◌≢◌, ℕ, ◌+◌, ◌≤◌, ℤ, List, [], ◌∷◌, ◌++◌, length, drop}
use Rattle.portmap_wire.specs.{ListReading.{HasNoNewline, HasNoReading, IsStrange, ReadsLine}, declared.list.Line.Line}
use Rattle.portmap_wire.specs.declared.list_reading.ListFault.{ListFault}
use Rattle.portmap_wire.specs.declared.list_reading.ListFault.TheVariants as fault
use Rattle.portmap_client_c.specs.{Answers.text_in, declared.node.EpmdLine.EpmdLine}
use Rattle.portmap_client_c.specs.declared.status.TheConstants.{EPMD_STRANGE_LINE, EPMD_NO_MEMORY}

-- The line, with its name from these bytes.
abbrev pub line_in : List ℕ → EpmdLine → Line
line_in bytes line = record { name = text_in bytes line.name; port = line.port }

-- A line from `at` to `next`, ended by byte 10.
pub record IsNextLine (bytes : List ℕ) (at next : ℕ) (line : EpmdLine) : Type 0 where
  pub prefix : List ℕ
  pub text_is : drop at bytes ≡ prefix ++ 10 ∷ drop next bytes
  pub reads : ReadsLine prefix (line_in bytes line)
  pub next_is : next ≡ at + length prefix + 1
  pub name_from : at ≤ line.name.at
  pub name_to : line.name.at + line.name.size ≤ next

-- The text is `prefix`, ended by its only byte 10.
pub record IsOneLine (text prefix : List ℕ) : Type 0 where
  pub text_is : text ≡ prefix ++ 10 ∷ []
  pub front_is : HasNoNewline prefix

-- The fault for which a text is not read as a line.
abbrev pub IsReadingFault : List ℕ → ListFault → Type 0
IsReadingFault prefix fault.NoMemory = (line : Line) × ReadsLine prefix line
IsReadingFault prefix fault.Short = HasNoReading prefix
IsReadingFault prefix (fault.StrangeLine at) = HasNoReading prefix

-- The text begins with a line, ended by byte 10.
abbrev pub HasLine : List ℕ → Type 0
HasLine text = (prefix : List ℕ) × (after : List ℕ) × (line : Line) × (text ≡ prefix ++ 10 ∷ after) × ReadsLine prefix line

-- The status for which no line was read.
pub record IsLineFault (text : List ℕ) (status : ℤ) : Type 0 where
  pub strange : status ≡ EPMD_STRANGE_LINE → IsStrange text
  pub memory : status ≡ EPMD_NO_MEMORY → HasLine text
  pub no_other : status ≢ EPMD_STRANGE_LINE → status ≡ EPMD_NO_MEMORY
