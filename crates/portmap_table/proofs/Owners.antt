-- The slots that own a name after a registration and after a retirement.
use Rattle.std.specs.List.{IsDistinct, list_any, position_or_len}
use Rattle.std.specs.Prelude.{position, remove, is_some, slice_get, nat_le, ◌==◌, ◌&&◌, ◌||◌, if◌then◌else◌}
use Rattle.std.proofs.Common.{◌≡◌, ◌≢◌, ℕ, ◌<◌, Bool, true, false, not, List, ◌∷◌, length, map, get_or, Option, Some}
use Rattle.std.proofs.{Common.{None, refl, sym, ap, ◌∙◌, rules}, lemmas.Bool.{eq-eqb, ne_eqb}, lemmas.Cmp.nat_eq_equiv}
use Rattle.std.proofs.{lemmas.List.Folds.{find_at, list_any-append, list_any_at}, lemmas.List.Quantifiers.position-Some}
use Rattle.std.proofs.lemmas.List.Sorted.{IsPermutation-remove, list_any-IsPermutation}
use Rattle.std.proofs.lemmas.Map.Keys.{IsDistinct-IsPermutation, IsDistinct-head}
use Rattle.std.proofs.lemmas.Option.{none-some, slice_get-get_or, slice_get_within, get_or_from_slice_get}
use Rattle.portmap_wire.specs.Node.{Node}
use Rattle.portmap_table.specs.{Indexes.no_row, Rows.{Names, active_row, is_known, known_len, owns_name, registered}}
use Rattle.portmap_table.specs.Rows.{retired_last, retired_at, retired_of, same_name, slot_of, with_room}
use Rattle.portmap_table.specs.{Rows.without_oldest, declared.row.Row.Row}
use Rattle.portmap_table.proofs.{Finding.{keys_moved, keys_pass_not}, First.{any_none, any_place}}

abbrev pub has_slot : ℕ → Row → Bool
has_slot slot row = row.slot == slot

-- A slot owns a name if and only if an active row has this slot.
pub owns : (slot : ℕ) (names : Names) → owns_name slot names ≡ list_any (has_slot slot) names.active
owns slot names = any_place (has_slot slot) names.active

-- ---- an active name has an owner

pub owner_owns : (name : List ℕ) (names : Names) (row : Row) → active_row name names ≡ Some row → owns_name row.slot names ≡ true
owner_owns name names row e =
    let i = position_or_len (λ (row : Row). same_name row.reg.name name) names.active in
    let there : slice_get names.active i ≡ Some row = sym (find_at (λ (row : Row). same_name row.reg.name name) names.active) ∙ e in
    owns row.slot names
    ∙ list_any_at (has_slot row.slot) names.active i row (slice_get_within names.active i row there)
    (ap (has_slot row.slot) (get_or_from_slice_get names.active i row row there) ∙ eq-eqb row.slot row.slot refl)

-- ---- a name registers

registered_owns : (q : ℕ) (g : Node) (creation slot : ℕ) (names : Names)
    → owns_name q (registered g creation slot names) ≡ (owns_name q names || (slot == q || false))
registered_owns q g creation slot names = search (rules, list_any-append, owns)

-- The slot of a registered name owns a name.
pub owns_registered : (g : Node) (creation slot : ℕ) (names : Names) → owns_name slot (registered g creation slot names) ≡ true
owns_registered g creation slot names = search (rules, registered_owns)

-- A registration changes nothing for other slots.
pub owns_registered_other : (q : ℕ) (g : Node) (creation slot : ℕ) (names : Names) → q ≢ slot
    → owns_name q (registered g creation slot names) ≡ owns_name q names
owns_registered_other q g creation slot names other = search (rules, registered_owns)

-- Forgetting the oldest retired name changes no owner.
owns_by : (b : Bool) (q : ℕ) (names : Names) → owns_name q (if b then without_oldest names else names) ≡ owns_name q names
owns_by b q names = search rules

pub owns_in_room : (known_max : ℕ) (name : List ℕ) (q : ℕ) (names : Names)
    → owns_name q (with_room known_max name names) ≡ owns_name q names
owns_in_room known_max name q names = owns_by (nat_le known_max (known_len names) && not (is_known name names)) q names

-- ---- a name retires

gone : (rows : List Row) (at : ℕ) (row : Row) → at < length rows → row ≡ get_or rows at row → IsDistinct ◌==◌ (map slot_of rows)
    → list_any (has_slot row.slot) (remove rows at) ≡ false
gone rows at row lt here d =
    let first = IsDistinct-IsPermutation ◌==◌ nat_eq_equiv.symm (map slot_of rows) (row.slot ∷ map slot_of (remove rows at))
    (keys_moved slot_of rows at row lt here) d in
    any_none (has_slot row.slot) (remove rows at)
    (keys_pass_not nat_eq_equiv slot_of row.slot (remove rows at) (IsDistinct-head ◌==◌ row.slot (map slot_of (remove rows at)) first))

-- After the row at `at` retires, its slot owns no name, and nothing changes for other slots.
last_owns : (slot : ℕ) (names : Names) (at : ℕ) (o : Option Row) → slice_get names.active at ≡ o
    → position (has_slot slot) names.active ≡ Some at → IsDistinct ◌==◌ (map slot_of names.active)
    → (owns_name slot (retired_last at o names) ≡ false) × ((q : ℕ) → q ≢ slot → owns_name q (retired_last at o names) ≡ owns_name q names)
last_owns slot names at None e found d =
    let row : Row = no_row in
    absurd (none-some _ (sym e ∙ slice_get-get_or names.active at row (position-Some (has_slot slot) names.active at row found).0))
last_owns slot names at (Some row) e found d =
    let lt : at < length names.active = slice_get_within names.active at row e in
    let here : row ≡ get_or names.active at row = sym (get_or_from_slice_get names.active at row row e) in
    let is : row.slot ≡ slot = search (rules, position-Some) in
    let after : Names = retired_last at (Some row) names in (
      owns slot after ∙ rw is at (gone names.active at row lt here d),
      λ q other.
          let differs : row.slot ≢ q = λ same. other (sym same ∙ is) in
          owns q after ∙ sym (owns q names ∙ list_any-IsPermutation (has_slot q) names.active (row ∷ remove names.active at)
          (IsPermutation-remove names.active at row lt here)
          ∙ ap (λ (b : Bool). b || list_any (has_slot q) (remove names.active at)) (ne_eqb row.slot q differs)),
    )

retired_owns : (slot : ℕ) (names : Names) (o : Option ℕ) → position (has_slot slot) names.active ≡ o
    → IsDistinct ◌==◌ (map slot_of names.active)
    → (owns_name slot (retired_at o names) ≡ false) × ((q : ℕ) → q ≢ slot → owns_name q (retired_at o names) ≡ owns_name q names)
retired_owns slot names None found d = (ap is_some found, λ q other. refl)
retired_owns slot names (Some at) found d = last_owns slot names at (slice_get names.active at) refl found d

-- A slot that retires owns no name.
pub owns_retired : (slot : ℕ) (names : Names) → IsDistinct ◌==◌ (map slot_of names.active) → owns_name slot (retired_of slot names) ≡ false
owns_retired slot names d = (retired_owns slot names (position (has_slot slot) names.active) refl d).0

-- A retirement changes nothing for other slots.
pub owns_retired_other : (q slot : ℕ) (names : Names) → IsDistinct ◌==◌ (map slot_of names.active) → q ≢ slot
    → owns_name q (retired_of slot names) ≡ owns_name q names
owns_retired_other q slot names d other = (retired_owns slot names (position (has_slot slot) names.active) refl d).1 q other
