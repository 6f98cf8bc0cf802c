-- Entries of known names. A name keeps its index while it is known, and two lists of indices hold the orders.
use Rattle.std.specs.Prelude.{◌≡◌, ◌≢◌, ◌⊎◌, ℕ, ◌+◌, ◌<◌, ◌≤◌, List, [], map, length, remove, Option, Some, None}
use Rattle.std.specs.Prelude.{slice_get, unwrap_or}
use Rattle.portmap_table.specs.{Rows.{Names, RetiredName}, declared.entries.NameEntry.{NameEntry, TheVariants.{Active, Retired}}}
use Rattle.portmap_table.specs.declared.row.Row.{Row}

-- A name with its row, or with what is remembered of it.
abbrev pub Entry : Type 0
Entry = List ℕ × NameEntry

abbrev pub active_entry : Row → Entry
active_entry row = (row.reg.name, Active row)

abbrev pub retired_entry : RetiredName → Entry
retired_entry old = (old.name, Retired old.port old.creation)

-- An active entry has the name of its row.
abbrev pub IsNamed : Entry → Type 0
IsNamed (name, Active row) = name ≡ row.reg.name
IsNamed (name, Retired port creation) = Unit {0}

abbrev pub AreNamed : List Entry → Type 0
AreNamed entries = (index : ℕ) (entry : Entry) → slice_get entries index ≡ Some entry → IsNamed entry

-- No entry has this name.
abbrev pub IsNew : List ℕ → List Entry → Type 0
IsNew name entries = (index : ℕ) (kept : NameEntry) → slice_get entries index ≡ Some (name, kept) → ⊥

-- `new` is `old` with `entry` at index `at`.
pub record Puts (old new : List Entry) (at : ℕ) (entry : Entry) : Type 0 where
  pub there : slice_get new at ≡ Some entry
  pub others : (index : ℕ) → index ≢ at → slice_get new index ≡ slice_get old index

-- ---- the entry at an index

abbrev pub IsActiveAt : List Entry → ℕ → Type 0
IsActiveAt entries index = (row : Row) × (slice_get entries index ≡ Some (active_entry row))

abbrev pub IsRetiredAt : List Entry → ℕ → Type 0
IsRetiredAt entries index = (old : RetiredName) × (slice_get entries index ≡ Some (retired_entry old))

-- The entry at `index` is that of an active or retired `name`.
abbrev pub StandsAs : List ℕ → List Entry → ℕ → Type 0
StandsAs name entries index = ((row : Row) × (slice_get entries index ≡ Some (active_entry row)) × (row.reg.name ≡ name))
    ⊎ ((old : RetiredName) × (slice_get entries index ≡ Some (retired_entry old)) × (old.name ≡ name))

-- No entry at another index has this name.
abbrev pub StandsOnce : List ℕ → List Entry → ℕ → Type 0
StandsOnce name entries index = (q : ℕ) (kept : NameEntry) → slice_get entries q ≡ Some (name, kept) → q ≡ index

-- The default of `row_in`, which is not read for an active entry.
abbrev pub no_row : Row
no_row = record { reg = record { port = 0; kind = 0; proto = 0; high = 0; low = 0; name = []; extra = [] }; creation = 0; slot = 0 }

abbrev no_old : RetiredName
no_old = record { name = []; port = 0; creation = 0 }

-- The row of an active entry, and the memory of a retired entry.
abbrev pub active_in : Option Entry → Option Row
active_in None = None
active_in (Some (name, Active row)) = Some row
active_in (Some (name, Retired port creation)) = None

abbrev pub retired_in : Option Entry → Option RetiredName
retired_in None = None
retired_in (Some (name, Active row)) = None
retired_in (Some (name, Retired port creation)) = Some (record { name = name; port = port; creation = creation })

abbrev pub row_in : Option Entry → Row
row_in entry = unwrap_or (active_in entry) no_row

abbrev pub old_in : Option Entry → RetiredName
old_in entry = unwrap_or (retired_in entry) no_old

abbrev pub row_at : List Entry → ℕ → Row
row_at entries index = row_in (slice_get entries index)

abbrev pub old_at : List Entry → ℕ → RetiredName
old_at entries index = old_in (slice_get entries index)

-- The names at these indices, in these orders.
abbrev pub names_at : List Entry → List ℕ → List ℕ → Names
names_at entries active retired = record { active = map (row_at entries) active; retired = map (old_at entries) retired }

-- ---- the invariant

-- A list contains each index of this kind exactly once, and no other index.
pub record HasEach (Is : ℕ → Type 0) (indexes : List ℕ) : Type 0 where
  pub sound : (i index : ℕ) → slice_get indexes i ≡ Some index → Is index
  pub whole : (index : ℕ) → Is index → (i : ℕ) × (slice_get indexes i ≡ Some index)
  pub once : (i j index : ℕ) → slice_get indexes i ≡ Some index → slice_get indexes j ≡ Some index → i ≡ j

-- `owner` maps the slots of the active names, and no other slots, to their indices.
pub record AreOwners (entries : List Entry) (owner : ℕ → Option ℕ) : Type 0 where
  pub active : (index : ℕ) (row : Row) → slice_get entries index ≡ Some (active_entry row) → owner row.slot ≡ Some index
  pub slots : (slot index : ℕ) → owner slot ≡ Some index
      → (row : Row) × (slice_get entries index ≡ Some (active_entry row)) × (row.slot ≡ slot)

pub record IsIndex (entries : List Entry) (active retired : List ℕ) (owner : ℕ → Option ℕ) : Type 0 where
  pub active_indexes : HasEach (IsActiveAt entries) active
  pub retired_indexes : HasEach (IsRetiredAt entries) retired
  pub owners : AreOwners entries owner
  pub count : length active + length retired ≡ length entries

-- ---- the index of a name that registers

-- A retired name keeps its index.
pub record Returns (name : List ℕ) (entries : List Entry) (retired left : List ℕ) (index : ℕ) : Type 0 where
  pub known : (old : RetiredName) × (slice_get entries index ≡ Some (retired_entry old)) × (old.name ≡ name)
  pub once : StandsOnce name entries index
  pub out : (i : ℕ) × (slice_get retired i ≡ Some index) × (left ≡ remove retired i)

-- A new name is appended, because there is room.
pub record Adds (known_max : ℕ) (name : List ℕ) (entries : List Entry) (retired left : List ℕ) (index : ℕ) : Type 0 where
  pub fresh : IsNew name entries
  pub few : length entries < known_max
  pub last : index ≡ length entries
  pub same : left ≡ retired

-- A new name replaces the name that was retired longest ago.
pub record Replaces (known_max : ℕ) (name : List ℕ) (entries : List Entry) (retired left : List ℕ) (index : ℕ) : Type 0 where
  pub fresh : IsNew name entries
  pub many : known_max ≤ length entries
  pub oldest : slice_get retired 0 ≡ Some index
  pub out : left ≡ remove retired 0

pub record TakesIndex (known_max : ℕ) (row : Row) (entries new : List Entry) (retired left : List ℕ) (index : ℕ) : Type 0 where
  pub puts : Puts entries new index (active_entry row)
  pub count : length left + length entries + 1 ≡ length new + length retired
  pub how : Returns row.reg.name entries retired left index
      ⊎ (Adds known_max row.reg.name entries retired left index ⊎ Replaces known_max row.reg.name entries retired left index)
