-- The effect of a registration and of a retirement on each name.
use Rattle.std.specs.Prelude.{◌≡◌, ◌<◌, ◌≤◌, ℕ, true, false, List, [], ◌∷◌, ◌++◌, length, drop, take, Option, Some}
use Rattle.std.specs.Prelude.{find, ◌==◌}
use Rattle.portmap_wire.specs.Node.{Node}
use Rattle.portmap_table.specs.{Creation.IsLegalCreation, Rows.{Names, AreKept, same_name, is_active, active_row}}
use Rattle.portmap_table.specs.Rows.{retired_row, is_full_for, is_known, known_len, registered, remembered, retired_of}
use Rattle.portmap_table.specs.{Rows.{old_name, with_room}, declared.row.Row.Row}

-- The row of the active name that a slot owns.
abbrev pub row_of : ℕ → Names → Option Row
row_of slot names = find (λ row. row.slot == slot) names.active

-- A registered name is active, with its registration, its creation and its slot.
abbrev pub RegisteredNamesAreActive : Type 0
RegisteredNamesAreActive = (names : Names) (reg : Node) (creation slot : ℕ) → is_active reg.name names ≡ false
    → active_row reg.name (registered reg creation slot names) ≡ Some (record { reg = reg; creation = creation; slot = slot })

-- A name whose slot retires is not active, and its port and its creation are remembered.
abbrev pub NamesOutliveConnections : Type 0
NamesOutliveConnections = (known_max : ℕ) (names : Names) (slot : ℕ) (row : Row) → AreKept known_max names → row_of slot names ≡ Some row
    → (is_active row.reg.name (retired_of slot names) ≡ false) × (retired_row row.reg.name (retired_of slot names) ≡ Some (old_name row))

-- `names` and `names'` agree about `name`.
abbrev pub KnowsAlike : List ℕ → Names → Names → Type 0
KnowsAlike name names names' = (active_row name names' ≡ active_row name names) × (retired_row name names' ≡ retired_row name names)

-- `registered` and `retired_of` leave what is known of other names unchanged.
abbrev pub OthersStayAtRegistration : Type 0
OthersStayAtRegistration = (names : Names) (reg : Node) (creation slot : ℕ) (other : List ℕ) → same_name reg.name other ≡ false
    → KnowsAlike other names (registered reg creation slot names)

abbrev pub OthersStayAtRetirement : Type 0
OthersStayAtRetirement = (names : Names) (slot : ℕ) (row : Row) (other : List ℕ) → row_of slot names ≡ Some row
    → same_name row.reg.name other ≡ false
    → KnowsAlike other names (retired_of slot names)

-- The newest name is last in its list, and older retired names keep their positions.
abbrev pub RegisteredNamesStandLast : Type 0
RegisteredNamesStandLast = (names : Names) (reg : Node) (creation slot : ℕ)
    → (registered reg creation slot names).active ≡ names.active ++ record { reg = reg; creation = creation; slot = slot } ∷ []

abbrev pub RetiredNamesStandLast : Type 0
RetiredNamesStandLast = (names : Names) (slot : ℕ) (row : Row) → row_of slot names ≡ Some row
    → (retired_of slot names).retired ≡ names.retired ++ old_name row ∷ []

abbrev pub RetiredNamesStay : Type 0
RetiredNamesStay = (names : Names) (slot : ℕ) → take (length names.retired) (retired_of slot names).retired ≡ names.retired

-- Making room forgets no active name, and no name at all if `name` is known.
abbrev pub ActiveNamesStay : Type 0
ActiveNamesStay = (known_max : ℕ) (names : Names) (name : List ℕ) → (with_room known_max name names).active ≡ names.active

abbrev pub KnownNamesCostNone : Type 0
KnownNamesCostNone = (known_max : ℕ) (names : Names) (name : List ℕ) → is_known name names ≡ true → with_room known_max name names ≡ names

-- Making room forgets no name if fewer than `known_max` names are known.
abbrev pub RoomCostsNone : Type 0
RoomCostsNone = (known_max : ℕ) (names : Names) (name : List ℕ) → known_len names < known_max → with_room known_max name names ≡ names

-- At the limit, making room for a new name forgets the name that was retired longest ago.
abbrev pub OldestMakesRoom : Type 0
OldestMakesRoom = (known_max : ℕ) (names : Names) (name : List ℕ) → known_max ≤ known_len names → is_known name names ≡ false
    → (with_room known_max name names).retired ≡ drop 1 names.retired

-- A name is refused for lack of room only if no name is retired.
abbrev pub NoneIsRefusedForRetiredNames : Type 0
NoneIsRefusedForRetiredNames = (known_max : ℕ) (names : Names) (name : List ℕ) → AreKept known_max names
    → is_full_for known_max name names ≡ true → names.retired ≡ []

-- The port and the last creation of a retired name are remembered.
abbrev pub LastCreationsAreRemembered : Type 0
LastCreationsAreRemembered = (known_max : ℕ) (names : Names) (slot : ℕ) (row : Row) → AreKept known_max names → row_of slot names ≡ Some row
    → (retired_row row.reg.name (retired_of slot names)
    ≡ Some (record { name = row.reg.name; port = row.reg.port; creation = row.creation }))
    × (remembered row.reg.name (retired_of slot names) ≡ Some row.creation)

-- A name that returns does not get its last creation.
abbrev pub ReturningNamesGetAnother : Type 0
ReturningNamesGetAnother = (high last c : ℕ) → IsLegalCreation high (Some last) c → c ≡ last → ⊥
