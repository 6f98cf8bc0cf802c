-- What is printed of words that are not a command: profile.
use Rattle.std.specs.List.{concat}
use Rattle.std.specs.Prelude.{◌≡◌, ℕ, ◌-◌, ◌⊎◌, List, [], ◌∷◌, if◌then◌else◌, get_or, codes, bytes_eq, Option, Result, Ok, Err}
use Rattle.portmap_link.specs.declared.adapters.writer.Writing.{Writing}
use Rattle.portmap_operator.specs.Showing.{shown}
use Rattle.portmap_command.specs.{Actions.{Fails, line_of, status_of}, Errors.IsPrinted}
use Rattle.portmap_command.specs.declared.actions.Failure.TheVariants.{Memory}
use Rattle.portmap_command.specs.declared.words.WordFault.{WordFault, TheVariants.{BadEnvPort, BadValue, MissingValue, NoMemory, NotUtf8}}
use Rattle.portmap_command.specs.declared.words.WordFault.TheVariants.{TwoCommands, Unknown}
use Rattle.portmap_command.specs.declared.actions.TheConstants as actions
use Rattle.portmap_command.specs.declared.faults.TheConstants as the

-- What the value of this word must be.
abbrev pub value_of : List ℕ → List ℕ
value_of word =
    if bytes_eq word (codes "-port") then codes "a number from 1 to 65535"
    else if bytes_eq word (codes "-address") then codes "IPv4 addresses separated by commas"
    else if bytes_eq word (codes "-packet_timeout") then codes "a number of seconds from 1 to 86400"
    else if bytes_eq word (codes "-workers") then codes "a number from 1 to 64"
    else if bytes_eq word (codes "-stop") then codes "a name of 1 to 1020 bytes without control characters"
    else codes "the path of a file"

-- The word at an index. Past the last word it is empty.
abbrev pub word_at : List (List ℕ) → ℕ → List ℕ
word_at words index = get_or words index []

-- The same word as it is printed.
abbrev pub shown_at : List (List ℕ) → ℕ → List ℕ
shown_at words index = shown (word_at words index)

abbrev pub status_of_fault : WordFault → ℕ
status_of_fault NoMemory = status_of Memory
status_of_fault fault = actions.REFUSED

-- The line of a fault of these words. The word of a bad value is the one before it.
abbrev pub line_of_fault : List (List ℕ) → WordFault → List ℕ
line_of_fault words (Unknown index) = concat (codes "epmd: unknown word \"" ∷ shown_at words index ∷ codes "\"" ∷ the.SEE_HELP.now ∷ [])
line_of_fault words (MissingValue index) = concat (codes "epmd: " ∷ shown_at words index ∷ codes " lacks its value, "
    ∷ value_of (word_at words index) ∷ the.SEE_HELP.now ∷ [])
line_of_fault words (BadValue index) = concat (codes "epmd: " ∷ shown_at words (index - 1) ∷ codes " needs "
    ∷ value_of (word_at words (index - 1)) ∷ codes ", not \"" ∷ shown_at words index ∷ codes "\"" ∷ the.SEE_HELP.now ∷ [])
line_of_fault words (TwoCommands index) = concat (codes "epmd: " ∷ shown_at words index ∷ codes " is a second command" ∷ the.SEE_HELP.now
    ∷ [])
line_of_fault words NotUtf8 = the.NOT_UTF8.now
line_of_fault words BadEnvPort = the.BAD_PORT.now
line_of_fault words NoMemory = line_of Memory

-- The line is printed, and the status returned. If memory runs out, nothing is printed.
abbrev pub IsReported : {E Want : Type 0} → (E → Option (List ℕ)) → ℕ → List ℕ → Result ℕ Want → Writing E → Writing E → Type 0
IsReported contents wanted line (Ok status) old new = (status ≡ wanted) × IsPrinted contents line old new
IsReported contents wanted line (Err want) old new = new ≡ old

-- The line and the status are those of the fault.
abbrev pub Reports : {E Want : Type 0} → (E → Option (List ℕ)) → List (List ℕ) → WordFault → Result ℕ Want → Writing E → Writing E → Type 0
Reports contents words fault = IsReported contents (status_of_fault fault) (line_of_fault words fault)

-- The status and the line are those of the fault, or of a failure for lack of memory.
abbrev pub Refuses : {E : Type 0} → (E → Option (List ℕ)) → List (List ℕ) → WordFault → ℕ → Writing E → Writing E → Type 0
Refuses contents words fault status old new =
    ((status ≡ status_of_fault fault) × IsPrinted contents (line_of_fault words fault) old new)
    ⊎ ((status ≡ status_of Memory) × Fails contents old new Memory)
