-- The invariant of a table's names holds after a registration and after a retirement.
use Rattle.std.specs.{Cmp.Lexicographic.same_text, List.IsDistinct, Prelude.{drop, position, remove, is_some}}
use Rattle.std.specs.Prelude.{slice_get, nat_le, All, MatchBool, ◌==◌, ◌&&◌, ◌||◌, if◌then◌else◌}
use Rattle.std.proofs.Common.{◌≡◌, ℕ, ◌<◌, ◌≤◌, ◌^◌, Bool, true, false, not, List, [], ◌∷◌, ◌++◌, length, map, get_or}
use Rattle.std.proofs.{Common.{Option, Some, None, refl, sym, ap, suc, arith, rules}, lemmas.Bool.Decides.nat_tests}
use Rattle.std.proofs.lemmas.Cmp.{nat_eq_equiv, nat_list_eq_equiv}
use Rattle.std.proofs.lemmas.List.{map-append, append-nil, length-append, length-drop, get_or_default}
use Rattle.std.proofs.{lemmas.List.Edits.length-remove, lemmas.List.Elements.{All-push, All-append, All-take, All-drop}}
use Rattle.std.proofs.{lemmas.List.Quantifiers.position-Some, lemmas.List.Sorted.IsPermutation-middle}
use Rattle.std.proofs.lemmas.Option.{slice_get_within, get_or_from_slice_get}
use Rattle.portmap_wire.specs.{Node.Node, Reply.is_short}
use Rattle.portmap_table.specs.{Creation.IsCreationFor, Rows.{name_of, slot_of, is_full_for, is_known, RetiredName}}
use Rattle.portmap_table.specs.Rows.{Names, AreKept, same_name, is_active, known_len, owns_name, retired_row}
use Rattle.portmap_table.specs.Rows.{without_at, without_oldest, with_room, registered, old_name, retired_last}
use Rattle.portmap_table.specs.{Rows.retired_at, declared.creation.TheConstants.{SHORT_MOST, COUNTER_LEAST}}
use Rattle.portmap_table.specs.declared.row.Row.{Row}
use Rattle.portmap_table.proofs.Finding.{key_is_new, distinct_with, distinct_forward, distinct_back, distinct_without}
use Rattle.portmap_table.proofs.{Finding.keys_moved, First.{NonePass, none_at, none_found, finds_none}}

-- ---- abbreviations of tests and keys

abbrev pub has_name : List ℕ → Row → Bool
has_name name row = same_name row.reg.name name

abbrev pub had_name : List ℕ → RetiredName → Bool
had_name name old = same_name old.name name

abbrev pub old_name_of : RetiredName → List ℕ
old_name_of old = old.name

abbrev IsRowKept : Row → Type 0
IsRowKept row = IsCreationFor row.reg.high row.creation

abbrev IsOldKept : RetiredName → Type 0
IsOldKept old = (1 ≤ old.creation) × (old.creation < 2 ^ 32)

All-remove : {X : Type 0} (P : X → Type 0) (xs : List X) (at : ℕ) → All P xs → All P (remove xs at)
All-remove P xs at all = All-append P _ _ (All-take P at xs all) (All-drop P (suc at) xs all)

-- ---- the empty table

pub kept_empty : (known_max : ℕ) → AreKept known_max (record { active = []; retired = [] })
unfolding IsDistinct
kept_empty known_max = search rules

-- ---- a name registers

-- A table that is not full for an unknown name has room.
has_room : (known_max known : ℕ) (taken old : Bool) → (nat_le known_max known && not (taken || old)) ≡ false → taken ≡ false → old ≡ false
    → known < known_max
has_room known_max known taken old e t o = grind (arith, nat_tests)

new_owner : (rows : List Row) (row : Row) (slot : ℕ) → IsDistinct ◌==◌ (map slot_of rows)
    → is_some (position (λ row. row.slot == slot) rows) ≡ false → row.slot ≡ slot → IsDistinct ◌==◌ (map slot_of (rows ++ row ∷ []))
new_owner rows row slot d free e =
    let keys = distinct_with nat_eq_equiv slot (map slot_of rows) []
    (key_is_new nat_eq_equiv slot_of slot rows (none_at (λ row. row.slot == slot) rows free)) tt (rw append-nil d) in
    rw (map-append slot_of rows (row ∷ []), e) (rw append-nil at keys)

-- A name that may be registered: it is not active, its slot owns no name, and its creation is in range.
pub record IsNew (known_max : ℕ) (names : Names) (g : Node) (creation slot : ℕ) : Type 0 where
  pub kept : AreKept known_max names
  pub inactive : is_active g.name names ≡ false
  pub free : owns_name slot names ≡ false
  pub range : IsCreationFor g.high creation

kept_with : {known_max c slot : ℕ} {names : Names} {g : Node} (o : Option ℕ) → IsNew known_max names g c slot
    → (is_some (retired_row g.name names) ≡ false → known_len names < known_max) → position (had_name g.name) names.retired ≡ o
    → AreKept known_max (record {
      active = names.active ++ record { reg = g; creation = c; slot = slot } ∷ [];
      retired = without_at o names.retired;
    })
kept_with {known_max} {c} {slot} {names} {g} None is room none =
    let row : Row = record { reg = g; creation = c; slot = slot } in
    let past : NonePass (had_name g.name) names.retired = none_at (had_name g.name) names.retired (ap is_some none) in
    let few : known_len names < known_max = room (ap is_some (finds_none (had_name g.name) names.retired past)) in
    record {
      distinct = rw (map-append name_of names.active (row ∷ []))
          (distinct_with nat_list_eq_equiv g.name (map name_of names.active) (map old_name_of names.retired)
          (key_is_new nat_list_eq_equiv name_of g.name names.active (none_found (has_name g.name) names.active is.inactive))
          (key_is_new nat_list_eq_equiv old_name_of g.name names.retired past) is.kept.distinct);
      few = omega (arith, length-append names.active (row ∷ []));
      owners = new_owner names.active row slot is.kept.owners is.free refl;
      active_creations = All-push IsRowKept names.active row is.kept.active_creations is.range;
      retired_creations = is.kept.retired_creations;
    }
kept_with {known_max} {c} {slot} {names} {g} (Some at) is room found =
    let row : Row = record { reg = g; creation = c; slot = slot } in
    let d : RetiredName = old_name row in
    let index = position-Some (had_name g.name) names.retired at d found in
    let lt : at < length names.retired = index.0 in
    let old : RetiredName = get_or names.retired at d in
    let same : old.name ≡ g.name = same_text old.name g.name (sym index.1) in
    let moved = keys_moved old_name_of names.retired at old lt (get_or_default names.retired at d old lt) in
    record {
      distinct = rw (map-append name_of names.active (row ∷ []), ← same)
          (distinct_forward nat_list_eq_equiv old.name (map name_of names.active) (map old_name_of names.retired)
          (map old_name_of (remove names.retired at)) moved is.kept.distinct);
      few = omega (arith, length-append names.active (row ∷ []), length-remove names.retired at lt, is.kept.few);
      owners = new_owner names.active row slot is.kept.owners is.free refl;
      active_creations = All-push IsRowKept names.active row is.kept.active_creations is.range;
      retired_creations = All-remove IsOldKept names.retired at is.kept.retired_creations;
    }

-- ---- the oldest retired name is forgotten

oldest_out : (active : List (List ℕ)) (olds : List RetiredName) → IsDistinct same_name (active ++ map old_name_of olds)
    → IsDistinct same_name (active ++ map old_name_of (drop 1 olds))
oldest_out active [] d = d
oldest_out active (old ∷ olds) d =
    distinct_without nat_list_eq_equiv old.name (active ++ old.name ∷ map old_name_of olds) (active ++ map old_name_of olds)
    (IsPermutation-middle active old.name (map old_name_of olds)) d

kept_without : (known_max : ℕ) (names : Names) → AreKept known_max names → AreKept known_max (without_oldest names)
kept_without known_max names k = record {
  distinct = oldest_out (map name_of names.active) names.retired k.distinct;
  few = omega (arith, k.few, length-drop 1 names.retired);
  owners = k.owners;
  active_creations = k.active_creations;
  retired_creations = All-drop IsOldKept 1 names.retired k.retired_creations;
}

-- The invariant holds after a registration.
pub kept_enters : {known_max c slot : ℕ} {names : Names} {g : Node} → IsNew known_max names g c slot
    → is_full_for known_max g.name names ≡ false → AreKept known_max (registered g c slot (with_room known_max g.name names))
kept_enters {known_max} {c} {slot} {names} {g} is room = by (nat_le known_max (known_len names) && not (is_known g.name names)) refl
  where
    less : (active known : ℕ) (is : Bool) → (nat_le known_max known && not is) ≡ true → (nat_le known_max active && not is) ≡ false
        → active < known_max
    less active known is over fits = grind (arith, nat_tests)

    by : (b : Bool) → (nat_le known_max (known_len names) && not (is_known g.name names)) ≡ b
        → AreKept known_max (registered g c slot (if b then without_oldest names else names))
    by true e =
        let few = less (length names.active) (known_len names) (is_known g.name names) e room in
        let older : IsNew known_max (without_oldest names) g c slot =
        record { kept = kept_without known_max names is.kept; inactive = is.inactive; free = is.free; range = is.range } in
        kept_with (position (had_name g.name) (drop 1 names.retired)) older
        (λ unknown. omega (arith, few, is.kept.few, length-drop 1 names.retired)) refl
    by false e =
        kept_with (position (had_name g.name) names.retired) is
        (λ unknown. has_room known_max (known_len names) (is_active g.name names)
        (is_some (retired_row g.name names)) e is.inactive unknown) refl

-- ---- a name retires

retired_range : (short : Bool) (c : ℕ) → MatchBool short ((1 ≤ c) × (c ≤ SHORT_MOST)) ((COUNTER_LEAST ≤ c) × (c < 2 ^ 32))
    → (1 ≤ c) × (c < 2 ^ 32)
retired_range short c h = search rules

kept_last : (known_max : ℕ) (names : Names) (at : ℕ) (o : Option Row) → slice_get names.active at ≡ o → AreKept known_max names
    → AreKept known_max (retired_last at o names)
kept_last known_max names at None e k = k
kept_last known_max names at (Some row) e k =
    let lt : at < length names.active = slice_get_within names.active at row e in
    let here : row ≡ get_or names.active at row = sym (get_or_from_slice_get names.active at row row e) in
    let legal : IsRowKept row = rw (get_or_from_slice_get names.active at row row e) at (k.active_creations at row lt) in
    record {
      distinct = rw (map-append old_name_of names.retired (old_name row ∷ []))
          (distinct_back nat_list_eq_equiv row.reg.name (map name_of names.active) (map old_name_of names.retired)
          (map name_of (remove names.active at)) (keys_moved name_of names.active at row lt here) k.distinct);
      few = omega (arith, length-append names.retired (old_name row ∷ []), length-remove names.active at lt, k.few);
      owners = distinct_without nat_eq_equiv row.slot (map slot_of names.active) (map slot_of (remove names.active at))
          (keys_moved slot_of names.active at row lt here) k.owners;
      active_creations = All-remove IsRowKept names.active at k.active_creations;
      retired_creations = All-push IsOldKept names.retired (old_name row) k.retired_creations
          (retired_range (is_short row.reg.high) row.creation legal);
    }

pub kept_retired : (known_max : ℕ) (names : Names) (o : Option ℕ) → AreKept known_max names → AreKept known_max (retired_at o names)
kept_retired known_max names None k = k
kept_retired known_max names (Some at) k = kept_last known_max names at (slice_get names.active at) refl k
