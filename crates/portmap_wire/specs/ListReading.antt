-- A client's reading of the reply to NAMES_REQ. ERTS User's Guide, EPMD Protocol: "Get All Registered Names from EPMD".
-- Profile: byte 10 ends a line, a port may have leading zeros, and a name may contain ` at port `.
use Rattle.std.specs.Prelude.{◌≡◌, ◌≢◌, ℕ, ◌+◌, ◌<◌, ◌≤◌, ◌^◌, Bool, ◌==◌, List, [], ◌∷◌, ◌++◌, length, All, codes}
use Rattle.std.specs.{Prelude.slice_index, Str.Parse.{AllDigits, digits_value}}
use Rattle.portmap_wire.specs.{List.names_reply, Name.IsName, Reply.be4, declared.list.Line.Line}
use Rattle.portmap_wire.specs.declared.list_reading.ListFault.{ListFault}
use Rattle.portmap_wire.specs.declared.list_reading.ListFault.TheVariants as fault

-- ---- a line

-- `digits` are 1 to 5 decimal digits that write `port`, which is below 65,536.
pub record WritesPort (digits : List ℕ) (port : ℕ) : Type 0 where
  pub some : 0 < length digits
  pub short : length digits ≤ 5
  pub each : AllDigits 10 digits
  pub value : digits_value 10 digits ≡ port
  pub fits : port < 2 ^ 16

-- `text` is `name NAME at port DIGITS`, where NAME may be any bytes.
pub record HasShape (text name : List ℕ) (port : ℕ) : Type 0 where
  pub digits : List ℕ
  pub text_is : text ≡ codes "name " ++ name ++ codes " at port " ++ digits
  pub port_is : WritesPort digits port

-- `text`, without its byte 10, is the line of this name and port.
pub record ReadsLine (text : List ℕ) (line : Line) : Type 0 where
  pub shape : HasShape text line.name line.port
  pub name : IsName line.name

abbrev pub HasNoReading : List ℕ → Type 0
HasNoReading text = (line : Line) → ReadsLine text line → ⊥

-- The decimal digits that end `text` begin at offset `start`.
pub record EndsInDigits (text : List ℕ) (start : ℕ) : Type 0 where
  pub within : start ≤ length text
  pub digits : (k : ℕ) → start ≤ k → k < length text → (48 ≤ slice_index text k) × (slice_index text k ≤ 57)
  pub before : (k : ℕ) → k + 1 ≡ start → 48 ≤ slice_index text k → 57 < slice_index text k

-- A text is the line of at most one name and port.
abbrev pub LinesHaveOneReading : Type 0
LinesHaveOneReading = (text : List ℕ) (a b : Line) → ReadsLine text a → ReadsLine text b → a ≡ b

-- ---- lines

abbrev pub is_newline : ℕ → Bool
is_newline b = b == 10

abbrev pub HasNoNewline : List ℕ → Type 0
HasNoNewline text = All (λ b. b ≢ 10) text

-- `front` precedes the first byte 10 of `text`, and `after` follows that byte.
pub record IsCut (text front after : List ℕ) : Type 0 where
  pub text_is : text ≡ front ++ 10 ∷ after
  pub front_is : HasNoNewline front

-- A text is these lines, each ended by byte 10, and then `rest`.
abbrev pub ListsTo : List ℕ → List Line → List ℕ → Type 0
ListsTo text [] rest = text ≡ rest
ListsTo text (line ∷ lines) rest = (front : List ℕ) × (after : List ℕ) × (text ≡ front ++ 10 ∷ after) × ReadsLine front line
    × ListsTo after lines rest

abbrev pub IsLines : List ℕ → Type 0
IsLines text = (lines : List Line) × ListsTo text lines []

-- `text` is not empty and does not begin with a line that is ended by byte 10.
pub record IsStrange (text : List ℕ) : Type 0 where
  pub some : 0 < length text
  pub unread : (front after : List ℕ) (line : Line) → text ≡ front ++ 10 ∷ after → ReadsLine front line → ⊥

-- `text` begins with exactly `at` lines: what follows them is strange.
pub record StrangeIn (text : List ℕ) (at : ℕ) : Type 0 where
  pub lines : List Line
  pub rest : List ℕ
  pub lines_are : ListsTo text lines rest
  pub count : length lines ≡ at
  pub strange : IsStrange rest

-- The fault of a text that is not a sequence of lines. Any text may meet `NoMemory`.
abbrev pub IsLinesFault : List ℕ → ListFault → Type 0
IsLinesFault text fault.Short = ⊥
IsLinesFault text (fault.StrangeLine at) = StrangeIn text at
IsLinesFault text fault.NoMemory = Unit {0}

-- ---- lists

-- `bytes` are a port in 4 bytes and then exactly these lines.
pub record Lists (bytes : List ℕ) (port : ℕ) (lines : List Line) : Type 0 where
  pub port_is : port < 2 ^ 32
  pub text : List ℕ
  pub bytes_are : bytes ≡ be4 port ++ text
  pub lines_are : ListsTo text lines []

abbrev pub IsList : List ℕ → Type 0
IsList bytes = (port : ℕ) × (lines : List Line) × Lists bytes port lines

-- After 4 bytes of port, line number `at`, counted from 0, is the first strange line.
pub record StrangeAt (bytes : List ℕ) (at : ℕ) : Type 0 where
  pub port : ℕ
  pub port_is : port < 2 ^ 32
  pub text : List ℕ
  pub bytes_are : bytes ≡ be4 port ++ text
  pub line : StrangeIn text at

-- The fault of bytes that are not a list. Any bytes may meet `NoMemory`.
abbrev pub IsListFault : List ℕ → ListFault → Type 0
IsListFault bytes fault.Short = length bytes < 4
IsListFault bytes (fault.StrangeLine at) = StrangeAt bytes at
IsListFault bytes fault.NoMemory = Unit {0}

-- `line` can be written and read back.
pub record IsLine (line : Line) : Type 0 where
  pub name : IsName line.name
  pub port : line.port < 2 ^ 16

-- `bytes` are this list and no other, and their only possible fault is `NoMemory`.
pub record IsReadBack (bytes : List ℕ) (port : ℕ) (lines : List Line) : Type 0 where
  pub list : Lists bytes port lines
  pub port_is : (other : ℕ) (others : List Line) → Lists bytes other others → port ≡ other
  pub lines_are : (other : ℕ) (others : List Line) → Lists bytes other others → lines ≡ others
  pub faultless : (f : ListFault) → IsListFault bytes f → f ≡ fault.NoMemory

-- Bytes are at most one list. If they are a list, their only possible fault is `NoMemory`.
abbrev pub ListsHaveOneReading : Type 0
ListsHaveOneReading = (bytes : List ℕ) (port : ℕ) (lines : List Line) → Lists bytes port lines → IsReadBack bytes port lines

-- The output of `write_names` is read back as its arguments, as nothing else, and with no fault but `NoMemory`.
abbrev pub NamesAreReadBack : Type 0
NamesAreReadBack = (port : ℕ) (lines : List Line) → port < 2 ^ 32 → All IsLine lines → IsReadBack (names_reply port lines) port lines
