-- The effect of a registration and of a retirement on each name.
use Rattle.std.specs.{Cmp.IsEquivalence, Cmp.Lexicographic.same_text}
use Rattle.std.specs.{List.{AllByRecursion, IsDistinct, position_or_len}, List.Sorted.IsPermutation, Prelude.◌&&◌}
use Rattle.std.specs.Prelude.{if◌then◌else◌, nat_le, find, position, remove, is_some, slice_get, ◌==◌, option_map, ◌||◌}
use Rattle.std.proofs.Common.{◌≡◌, ◌<◌, ◌≤◌, ℕ, Bool, false, not, List, [], ◌∷◌, ◌++◌, length, map, take, get_or, arith}
use Rattle.std.proofs.Common.{Option, Some, None, refl, sym, ap, ◌∙◌, zero, suc, ◌^◌, append_assoc, rules}
use Rattle.std.proofs.{lemmas.Bool.or_parts, lemmas.Bool.Decides.nat_tests}
use Rattle.std.proofs.lemmas.Cmp.{nat_list_eq_equiv, nat_eq_equiv}
use Rattle.std.proofs.lemmas.List.{take_all, take_at, nil_from_length, map-append, append-nil, length-append}
use Rattle.std.proofs.{lemmas.List.Elements.All-push, lemmas.List.Quantifiers.position-Some}
use Rattle.std.proofs.lemmas.List.Sorted.{IsPermutation-append_left}
use Rattle.std.proofs.lemmas.Map.Keys.{IsDistinct-IsPermutation, IsDistinct-head}
use Rattle.std.proofs.lemmas.Option.{slice_get_within, slice_get-get_or, get_or_from_slice_get}
use Rattle.portmap_table.specs.Laws.{row_of, ActiveNamesStay, KnownNamesCostNone, LastCreationsAreRemembered}
use Rattle.portmap_table.specs.Laws.{NoneIsRefusedForRetiredNames, OldestMakesRoom, RegisteredNamesAreActive}
use Rattle.portmap_table.specs.Laws.{NamesOutliveConnections, OthersStayAtRegistration, OthersStayAtRetirement}
use Rattle.portmap_table.specs.{Laws.{RetiredNamesStandLast, RetiredNamesStay, RoomCostsNone}, Rows.known_names}
use Rattle.portmap_table.specs.Rows.{name_of, RetiredName, Names, same_name, is_active, active_row, retired_row}
use Rattle.portmap_table.specs.Rows.{without_at, old_name, retired_of, retired_at, retired_last, is_known, known_len}
use Rattle.portmap_table.specs.Rows.{without_oldest, AreKept, and_retired, owns_name, registered, slot_of, with_room}
use Rattle.portmap_table.specs.declared.row.Row.{Row}
use Rattle.portmap_table.proofs.Finding.{keys_moved, is_none, find-push, find-push_other, find-remove, keys_pass_not}
use Rattle.portmap_table.proofs.Finding.{parts, position-find, both_parts, distinct_with, key_is_new}
use Rattle.portmap_table.proofs.{First.{finds_none, no_index, none_found}, NameEntry.{has_name, had_name, old_name_of}}
use Rattle.portmap_table.proofs.Owners.{has_slot}

pub registered_names_are_active : RegisteredNamesAreActive
registered_names_are_active names reg creation slot inactive =
    find-push (has_name reg.name) names.active (record { reg = reg; creation = creation; slot = slot })
    (is_none (find (has_name reg.name) names.active) inactive) (nat_list_eq_equiv.refl reg.name)

-- A name that differs from each known name is in neither list.
pub none_known : (name : List ℕ) (names : Names) → AllByRecursion (λ y. same_name name y ≡ false) (known_names names)
    → (find (has_name name) names.active ≡ None) × (find (had_name name) names.retired ≡ None)
none_known name names differ =
    let two = parts (λ y. same_name name y ≡ false) (map name_of names.active) (map old_name_of names.retired) differ in (
      finds_none (has_name name) names.active (keys_pass_not nat_list_eq_equiv name_of name names.active two.0),
      finds_none (had_name name) names.retired (keys_pass_not nat_list_eq_equiv old_name_of name names.retired two.1),
    )

-- ---- the row that retires

-- The position of the slot's row, and the names after its retirement.
pub record Leaves (names : Names) (slot : ℕ) (row : Row) : Type 0 where
  pub at : ℕ
  pub there : slice_get names.active at ≡ Some row
  pub after : retired_of slot names ≡ record { active = remove names.active at; retired = names.retired ++ old_name row ∷ [] }

leaves : (names : Names) (slot : ℕ) (row : Row) → row_of slot names ≡ Some row → Leaves names slot row
leaves names slot row e =
    let index = position-find (λ (row : Row). row.slot == slot) names.active row e in
    let at = position_or_len (λ (row : Row). row.slot == slot) names.active in
    record {
      at = at;
      there = index.1;
      after = ap (λ (o : Option ℕ). retired_at o names) index.0 ∙ ap (λ (o : Option Row). retired_last at o names) index.1;
    }

pub names_outlive_connections : NamesOutliveConnections
names_outlive_connections known_max names slot row k e =
    let left = leaves names slot row e in
    let lt = slice_get_within names.active left.at row left.there in
    let n = row.reg.name in
    let gone = map name_of (remove names.active left.at) in
    let old = map old_name_of names.retired in
    let moved : IsPermutation (map name_of names.active) (n ∷ gone) =
    keys_moved name_of names.active left.at row lt (sym (get_or_from_slice_get names.active left.at row row left.there)) in
    let distinct : IsDistinct same_name (n ∷ (gone ++ old)) =
    IsDistinct-IsPermutation same_name nat_list_eq_equiv.symm (map name_of names.active ++ old) (n ∷ (gone ++ old))
    (IsPermutation-append_left old (map name_of names.active) (n ∷ gone) moved) k.distinct in
    let differ : AllByRecursion (λ y. same_name n y ≡ false) (gone ++ old) = IsDistinct-head same_name n (gone ++ old) distinct in
    let none = none_known n (record { active = remove names.active left.at; retired = names.retired }) differ in (
      ap (is_active n) left.after ∙ ap is_some none.0,
      ap (retired_row n) left.after
          ∙ find-push (had_name n) names.retired (old_name row) none.1 (nat_list_eq_equiv.refl n),
    )

-- ---- other names

-- Removing a retired name changes no search for another name.
others_without : (olds : List RetiredName) (name other : List ℕ) (o : Option ℕ) → position (had_name name) olds ≡ o
    → same_name name other ≡ false → find (had_name other) (without_at o olds) ≡ find (had_name other) olds
others_without olds name other None e differs = refl
others_without olds name other (Some at) e differs =
    let d : RetiredName = record { name = []; port = 0; creation = 0 } in
    let index = position-Some (had_name name) olds at d e in
    let old = get_or olds at d in
    let same : old.name ≡ name = same_text old.name name (sym index.1) in
    find-remove (had_name other) olds at old (slice_get-get_or olds at d index.0) (ap (λ (n : List ℕ). same_name n other) same ∙ differs)

pub others_stay_at_registration : OthersStayAtRegistration
others_stay_at_registration names reg creation slot other differs = (
  find-push_other (has_name other) names.active (record { reg = reg; creation = creation; slot = slot }) differs,
  others_without names.retired reg.name other (position (had_name reg.name) names.retired) refl differs,
)

pub others_stay_at_retirement : OthersStayAtRetirement
others_stay_at_retirement names slot row other e differs =
    let left = leaves names slot row e in (
      ap (active_row other) left.after ∙ find-remove (has_name other) names.active left.at row left.there differs,
      ap (retired_row other) left.after ∙ find-push_other (had_name other) names.retired (old_name row) differs,
    )

-- ---- the order

pub retired_names_stand_last : RetiredNamesStandLast
retired_names_stand_last names slot row e = ap (λ (left : Names). left.retired) (leaves names slot row e).after

retired_last_stands_last : (names : Names) (at : ℕ) (o : Option Row)
    → take (length names.retired) (retired_last at o names).retired ≡ names.retired
retired_last_stands_last names at o = search (rules, take_all, take_at)

retired_at_stands_last : (names : Names) (o : Option ℕ) → take (length names.retired) (retired_at o names).retired ≡ names.retired
retired_at_stands_last names None = take_all (length names.retired) names.retired (omega arith)
retired_at_stands_last names (Some at) = retired_last_stands_last names at (slice_get names.active at)

pub retired_names_stay : RetiredNamesStay
retired_names_stay names slot = retired_at_stands_last names (position (λ (row : Row). row.slot == slot) names.active)

-- ---- names that are forgotten

active_by : (b : Bool) (names : Names) → (if b then without_oldest names else names).active ≡ names.active
active_by b names = search rules

pub active_names_stay : ActiveNamesStay
active_names_stay known_max names name = active_by (nat_le known_max (known_len names) && not (is_known name names)) names

room_by : (b c : Bool) (names : Names) → b ≡ c → (if b then without_oldest names else names) ≡ (if c then without_oldest names else names)
room_by b c names e = ap (λ (d : Bool). if d then without_oldest names else names) e

pub known_names_cost_none : KnownNamesCostNone
known_names_cost_none known_max names name e = search rules

few_known : (m n : ℕ) (known : Bool) → n < m → (nat_le m n && not known) ≡ false
few_known m n known lt = grind (arith, nat_tests)

pub room_costs_none : RoomCostsNone
room_costs_none known_max names name lt = room_by _ false names (few_known known_max (known_len names) (is_known name names) lt)

pub oldest_makes_room : OldestMakesRoom
oldest_makes_room known_max names name le e = search rules

pub ruleset forgetting = (active_names_stay, known_names_cost_none, room_costs_none, oldest_makes_room)

-- ---- names that are refused, and names that return

pub none_is_refused_for_retired_names : NoneIsRefusedForRetiredNames
none_is_refused_for_retired_names known_max names name k e = search (rules, nil_from_length)

pub last_creations_are_remembered : LastCreationsAreRemembered
last_creations_are_remembered known_max names slot row k e =
    let old = (names_outlive_connections known_max names slot row k e).1 in
    (old, ap (option_map (λ (x : RetiredName). x.creation)) old)

-- ---- names that are added in order: a key differs from all earlier keys

distinct_second : {K : Type 0} (same : K → K → Bool) (xs ys : List K) → IsDistinct same (xs ++ ys) → IsDistinct same ys
unfolding IsDistinct
distinct_second same [] ys d = d
distinct_second same (x ∷ xs) ys d = distinct_second same xs ys d.1

part_read : {X K : Type 0} (P : K → Type 0) (key : X → K) (xs : List X) (ys : List K) (i : ℕ) {x : X} → AllByRecursion P (map key xs ++ ys)
    → slice_get xs i ≡ Some x → P (key x)
part_read P key [] ys i all e = absurd cc
part_read P key (y ∷ xs) ys zero {x} all e = rw (let same : x ≡ y = cc in same) all.0
part_read P key (y ∷ xs) ys (suc i) all e = part_read P key xs ys i all.1 e

-- A key differs from the earlier keys and from the keys of a second part.
differs_before : {X K : Type 0} {same : K → K → Bool} → IsEquivalence same → (key : X → K) (xs : List X) (ys : List K) (i : ℕ) {x : X}
    → IsDistinct same (map key xs ++ ys) → slice_get xs i ≡ Some x
    → AllByRecursion (λ y. same (key x) y ≡ false) (map key (take i xs) ++ ys)
unfolding IsDistinct
differs_before laws key [] ys i d e = absurd cc
differs_before {X} {K} {same} laws key (z ∷ xs) ys zero {x} d e =
    (parts (λ y. same (key x) y ≡ false) (map key xs) ys (rw (let is : x ≡ z = cc in is) d.0)).1
differs_before {X} {K} {same} laws key (z ∷ xs) ys (suc i) {x} d e =
    (laws.symm (key x) (key z) ∙ part_read (λ y. same (key z) y ≡ false) key xs ys i d.0 e, differs_before laws key xs ys i d.1 e)

-- ---- a name that is known twice, and a slot that owns two

is_unknown : (name : List ℕ) (names : Names) → AllByRecursion (λ y. same_name name y ≡ false) (known_names names)
    → is_known name names ≡ false
is_unknown name names differ = let none = none_known name names differ in λ i. is_some (none.0 i) || is_some (none.1 i)

module _ {known_max : ℕ} {names : Names} (k : AreKept known_max names) (i : ℕ) where
  pub new_active : (row : Row) → slice_get names.active i ≡ Some row
      → is_known row.reg.name (record { active = take i names.active; retired = names.retired }) ≡ false
  new_active row e = is_unknown row.reg.name (record { active = take i names.active; retired = names.retired })
      (differs_before nat_list_eq_equiv name_of names.active (map old_name_of names.retired) i k.distinct e)

  pub new_owner : (row : Row) → slice_get names.active i ≡ Some row
      → owns_name row.slot (record { active = take i names.active; retired = names.retired }) ≡ false
  new_owner row e =
      ap is_some (no_index (has_slot row.slot) (take i names.active)
      (keys_pass_not nat_eq_equiv slot_of row.slot (take i names.active)
      (rw append-nil at (differs_before nat_eq_equiv slot_of names.active [] i (rw append-nil k.owners) e))))

  pub new_retired : (old : RetiredName) → slice_get names.retired i ≡ Some old
      → is_known old.name (record { active = []; retired = take i names.retired }) ≡ false
  new_retired old e =
      is_unknown old.name (record { active = []; retired = take i names.retired })
      (rw append-nil at (differs_before nat_list_eq_equiv old_name_of names.retired [] i
      (rw append-nil (distinct_second same_name (map name_of names.active) (map old_name_of names.retired) k.distinct)) e))

-- ---- a name is added

module _ (known_max : ℕ) (names : Names) (lt : known_len names < known_max) where
  -- An active name is added.
  pub admitted : (row : Row) → is_known row.reg.name names ≡ false
      → registered row.reg row.creation row.slot (with_room known_max row.reg.name names)
      ≡ record { active = names.active ++ row ∷ []; retired = names.retired }
  admitted row unknown =
      ap (registered row.reg row.creation row.slot) (room_costs_none known_max names row.reg.name lt)
      ∙ ap (λ (at : Option ℕ). record { active = names.active ++ row ∷ []; retired = without_at at names.retired })
      (no_index (had_name row.reg.name) names.retired
      (none_found (had_name row.reg.name) names.retired (or_parts (is_active row.reg.name names) _ unknown).1))

  key_differs : (name : List ℕ) → is_known name names ≡ false
      → AllByRecursion (λ y. same_name name y ≡ false) (map name_of names.active ++ map old_name_of names.retired)
  key_differs name unknown =
      let two = or_parts (is_active name names) _ unknown in
      both_parts (λ y. same_name name y ≡ false) (map name_of names.active) (map old_name_of names.retired)
      (key_is_new nat_list_eq_equiv name_of name names.active (none_found (has_name name) names.active two.0))
      (key_is_new nat_list_eq_equiv old_name_of name names.retired (none_found (had_name name) names.retired two.1))

  -- A retired name is added.
  pub kept_appended : (old : RetiredName) → AreKept known_max names → is_known old.name names ≡ false
      → (1 ≤ old.creation) × (old.creation < 2 ^ 32) → AreKept known_max (and_retired names old)
  kept_appended old k unknown range = record {
    distinct =
        let all = map name_of names.active ++ map old_name_of names.retired in
        let keys : IsDistinct same_name ((all ++ old.name ∷ []) ++ []) =
        distinct_with nat_list_eq_equiv old.name all [] (key_differs old.name unknown) tt (rw append-nil k.distinct) in
        rw (map-append old_name_of names.retired (old ∷ []), ← append_assoc) (rw append-nil at keys);
    few = omega (arith, lt, length-append names.retired (old ∷ []));
    owners = k.owners;
    active_creations = k.active_creations;
    retired_creations = All-push (λ old. (1 ≤ old.creation) × (old.creation < 2 ^ 32)) names.retired old k.retired_creations range;
  }
