-- The names that a port mapper knows. ERTS User's Guide, EPMD Protocol: a registration lasts as long as its connection.
-- Profile: what is remembered of retired names.
use Rattle.std.specs.{Cmp.Lexicographic.pointwise, List.IsDistinct, Prelude.{ℕ, ◌+◌, ◌≤◌, ◌<◌, ◌^◌, Bool, not, nat_le}}
use Rattle.std.specs.Prelude.{◌&&◌, ◌||◌, List, [], ◌∷◌, ◌++◌, length, map, drop, remove, position, find, Option, Some}
use Rattle.std.specs.Prelude.{None, is_some, option_map, slice_get, ◌==◌, All, if◌then◌else◌}
use Rattle.portmap_wire.specs.Node.{Node}
use Rattle.portmap_table.specs.{Creation.IsCreationFor, declared.row.Old.Old, declared.row.Retired.Retired}
use Rattle.portmap_table.specs.{declared.row.Row.Row, declared.name_status.NameStatus.NameStatus}
use Rattle.portmap_table.specs.declared.name_status.NameStatus.TheVariants as how

-- A retired name, its port and its last creation.
abbrev pub RetiredName : Type 0
RetiredName = Old

-- A borrowed retired name, as a value.
abbrev pub retired_name : Retired → RetiredName
retired_name old = record { name = old.name.now; port = old.port; creation = old.creation }

-- The active names in order of registration, and the retired names in order of retirement.
pub record Names : Type 0 where
  pub active : List Row
  pub retired : List RetiredName

abbrev pub no_names : Names
no_names = record { active = []; retired = [] }

-- ---- lookups

abbrev pub name_of : Row → List ℕ
name_of row = row.reg.name

abbrev pub slot_of : Row → ℕ
slot_of row = row.slot

-- Compares two names byte for byte.
abbrev pub same_name : List ℕ → List ℕ → Bool
same_name = pointwise ◌==◌

abbrev pub active_row : List ℕ → Names → Option Row
active_row name names = find (λ row. same_name row.reg.name name) names.active

abbrev pub is_active : List ℕ → Names → Bool
is_active name names = is_some (active_row name names)

abbrev pub retired_row : List ℕ → Names → Option RetiredName
retired_row name names = find (λ old. same_name old.name name) names.retired

abbrev pub is_known : List ℕ → Names → Bool
is_known name names = is_active name names || is_some (retired_row name names)

abbrev pub known_len : Names → ℕ
known_len names = length names.active + length names.retired

-- As many names are active as may be known, and this name is not known.
abbrev pub is_full_for : ℕ → List ℕ → Names → Bool
is_full_for known_max name names = nat_le known_max (length names.active) && not (is_known name names)

-- The creation that is remembered for a name.
abbrev pub remembered : List ℕ → Names → Option ℕ
remembered name names = option_map (λ old. old.creation) (retired_row name names)

-- A name is active, has no room, or is free to be registered.
abbrev pub name_status : ℕ → List ℕ → Names → NameStatus
name_status known_max name names =
    if is_active name names then how.Active
    else if is_full_for known_max name names then how.NoRoom
    else how.Free (remembered name names)

abbrev pub owner_of : List ℕ → Names → Option ℕ
owner_of name names = option_map (λ row. row.slot) (active_row name names)

abbrev pub owns_name : ℕ → Names → Bool
owns_name slot names = is_some (position (λ row. row.slot == slot) names.active)

-- ---- changes

abbrev pub without_at : {X : Type 0} → Option ℕ → List X → List X
without_at None xs = xs
without_at (Some at) xs = remove xs at

abbrev pub and_retired : Names → RetiredName → Names
and_retired names old = record { active = names.active; retired = names.retired ++ old ∷ [] }

-- Forgets the name that was retired longest ago.
abbrev pub without_oldest : Names → Names
without_oldest names = record { active = names.active; retired = drop 1 names.retired }

-- Forgets the name that was retired longest ago if the limit is reached and `name` is not known.
abbrev pub with_room : ℕ → List ℕ → Names → Names
with_room known_max name names = if nat_le known_max (known_len names) && not (is_known name names) then without_oldest names else names

-- The registered name becomes the last active name, and is not retired.
abbrev pub registered : Node → ℕ → ℕ → Names → Names
registered reg creation slot names = record {
  active = names.active ++ record { reg = reg; creation = creation; slot = slot } ∷ [];
  retired = without_at (position (λ old. same_name old.name reg.name) names.retired) names.retired;
}

abbrev pub old_name : Row → RetiredName
old_name row = record { name = row.reg.name; port = row.reg.port; creation = row.creation }

abbrev pub retired_last : ℕ → Option Row → Names → Names
retired_last at None names = names
retired_last at (Some row) names = record { active = remove names.active at; retired = names.retired ++ old_name row ∷ [] }

abbrev pub retired_at : Option ℕ → Names → Names
retired_at None names = names
retired_at (Some at) names = retired_last at (slice_get names.active at) names

-- The name that a slot owns becomes the last retired name.
abbrev pub retired_of : ℕ → Names → Names
retired_of slot names = retired_at (position (λ row. row.slot == slot) names.active) names

-- ---- the invariant

abbrev pub known_names : Names → List (List ℕ)
known_names names = map (λ row. row.reg.name) names.active ++ map (λ old. old.name) names.retired

-- No name is known twice, at most `known_max` names are known, no slot owns two names, and all creations are in range.
pub record AreKept (known_max : ℕ) (names : Names) : Type 0 where
  pub distinct : IsDistinct same_name (known_names names)
  pub few : known_len names ≤ known_max
  pub owners : IsDistinct ◌==◌ (map (λ row. row.slot) names.active)
  pub active_creations : All (λ row. IsCreationFor row.reg.high row.creation) names.active
  pub retired_creations : All (λ old. (1 ≤ old.creation) × (old.creation < 2 ^ 32)) names.retired
