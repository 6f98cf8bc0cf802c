-- Reading by offsets, from left to right, up to the first fault. By the contract of `read_request`, this reading finds
-- exactly what the bytes spell.
use Rattle.std.specs.{Int.{w16, from_be_bytes}, Prelude.{◌≡◌, ℕ, ◌+◌, List, [], ◌∷◌, length, take, drop, slice_index}}
use Rattle.std.specs.Prelude.{Option, Some, None, Result, Ok, Err, nat_lt, ◌==◌, position, if◌then◌else◌}
use Rattle.portmap_wire.specs.{Name.is_control, Node.Node, declared.name.NameFault.NameFault}
use Rattle.portmap_wire.specs.{declared.name.TheConstants.NAME_MOST, declared.request.Malformed.Malformed}
use Rattle.portmap_wire.specs.declared.request.Request.{Request, TheVariants.{Alive, Dump, Kill, Names, Port, Stop}}
use Rattle.portmap_wire.specs.declared.request.TheConstants.{BODY_MOST, ALIVE2_REQ, PORT_PLEASE2_REQ, NAMES_REQ}
use Rattle.portmap_wire.specs.declared.request.TheConstants.{DUMP_REQ, KILL_REQ, STOP_REQ}
use Rattle.portmap_wire.specs.declared.name.NameFault.TheVariants as name_fault
use Rattle.portmap_wire.specs.declared.request.Malformed.TheVariants as malformed

-- ---- names

-- The bytes, unless a control character was found.
abbrev pub unless_found : Option ℕ → List ℕ → Result (List ℕ) NameFault
unless_found None bytes = Ok bytes
unless_found (Some at) bytes = Err (name_fault.BadByte at)

abbrev pub name_in : List ℕ → Result (List ℕ) NameFault
name_in bytes =
    if length bytes == 0 then Err name_fault.Empty
    else if nat_lt NAME_MOST (length bytes) then Err name_fault.TooLong
    else unless_found (position is_control bytes) bytes

-- The result is `said` or `NoMemory`.
abbrev pub GivesName : {X : Type 0} → Result X NameFault → Result X NameFault → Type 0
GivesName (Ok x) said = said ≡ Ok x
GivesName (Err name_fault.NoMemory) said = Unit {0}
GivesName (Err name_fault.Empty) said = said ≡ Err name_fault.Empty
GivesName (Err name_fault.TooLong) said = said ≡ Err name_fault.TooLong
GivesName (Err (name_fault.BadByte at)) said = said ≡ Err (name_fault.BadByte at)

-- ---- the fields of a registration

-- The number in the two bytes at offset `at`.
abbrev pub u16_in : List ℕ → ℕ → ℕ
u16_in bytes at = from_be_bytes w16 (take 2 (drop at bytes))

-- The fields at the beginning of `q` and the bytes after them, or `None` if `q` ends before the fields do.
unfoldable pub fields_in : List ℕ → Option (Node × List ℕ)
fields_in q =
    if nat_lt (length q) 12 then None
    else if nat_lt (length q) (12 + u16_in q 8) then None
    else if nat_lt (length q) (12 + u16_in q 8 + u16_in q (10 + u16_in q 8)) then None
    else Some (
      record {
        port = u16_in q 0;
        kind = slice_index q 2;
        proto = slice_index q 3;
        high = u16_in q 4;
        low = u16_in q 6;
        name = take (u16_in q 8) (drop 10 q);
        extra = take (u16_in q (10 + u16_in q 8)) (drop (12 + u16_in q 8) q);
      },
      drop (12 + u16_in q 8 + u16_in q (10 + u16_in q 8)) q,
    )

-- ---- requests

-- A fault of the name, as a fault of the request.
abbrev pub in_request : NameFault → Malformed
in_request name_fault.NoMemory = malformed.NoMemory
in_request name_fault.Empty = malformed.Name name_fault.Empty
in_request name_fault.TooLong = malformed.Name name_fault.TooLong
in_request (name_fault.BadByte at) = malformed.Name (name_fault.BadByte at)

-- A request whose body is a tag and a name.
abbrev pub named : (List ℕ → Request) → Result (List ℕ) NameFault → Result Request Malformed
named make (Ok name) = Ok (make name)
named make (Err fault) = Err (in_request fault)

-- A request whose body is its tag.
abbrev pub alone : Request → List ℕ → Result Request Malformed
alone request [] = Ok request
alone request (b ∷ bs) = Err malformed.LengthsDisagree

-- The registration, if its name is a name.
abbrev pub with_name : Node → Result (List ℕ) NameFault → Result Request Malformed
with_name g (Ok name) = Ok (Alive g)
with_name g (Err fault) = Err (in_request fault)

-- The registration, if its fields fill the body.
abbrev pub filled : Option (Node × List ℕ) → Result Request Malformed
filled None = Err malformed.LengthsDisagree
filled (Some f) = if length f.1 == 0 then with_name f.0 (name_in f.0.name) else Err malformed.LengthsDisagree

-- Reads the bytes after the tag ALIVE2_REQ.
unfoldable pub alive_in : List ℕ → Result Request Malformed
alive_in rest =
    if nat_lt (length rest) 12 then Err malformed.Short
    else if nat_lt BODY_MOST (1 + length rest) then Err malformed.LengthsDisagree
    else filled (fields_in rest)

unfoldable pub by_tag : ℕ → List ℕ → Result Request Malformed
by_tag tag rest =
    if tag == ALIVE2_REQ then alive_in rest
    else if tag == PORT_PLEASE2_REQ then named (λ name. Port name) (name_in rest)
    else if tag == NAMES_REQ then alone Names rest
    else if tag == DUMP_REQ then alone Dump rest
    else if tag == KILL_REQ then alone Kill rest
    else if tag == STOP_REQ then named (λ name. Stop name) (name_in rest)
    else Err malformed.UnknownTag

abbrev pub request_in : List ℕ → Result Request Malformed
request_in [] = Err malformed.Short
request_in (tag ∷ rest) = by_tag tag rest

-- The result is `said` or `NoMemory`.
abbrev pub Gives : {X : Type 0} → Result X Malformed → Result X Malformed → Type 0
Gives (Ok x) said = said ≡ Ok x
Gives (Err malformed.NoMemory) said = Unit {0}
Gives (Err malformed.Short) said = said ≡ Err malformed.Short
Gives (Err malformed.UnknownTag) said = said ≡ Err malformed.UnknownTag
Gives (Err malformed.LengthsDisagree) said = said ≡ Err malformed.LengthsDisagree
Gives (Err (malformed.Name fault)) said = said ≡ Err (malformed.Name fault)
