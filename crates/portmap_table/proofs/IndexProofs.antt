-- Names at indices: lookups by name and by slot, and the effect of a registration and a retirement.
use Rattle.std.specs.Prelude.{◌&&◌, ◌||◌, if◌then◌else◌, nat_le, drop, find, position, remove, slice_get, is_some}
use Rattle.std.specs.Prelude.{option_map}
use Rattle.std.proofs.Common.{◌≡◌, ◌≢◌, ℕ, Bool, true, false, not, List, [], ◌∷◌, ◌++◌, length, map, Option, Some, None}
use Rattle.std.proofs.Common.{refl, sym, ap, ◌∙◌, subst, arith, inl, inr, true≢false, rules}
use Rattle.std.proofs.{lemmas.Bool.{cases_eq, eq-eqb, false_from_ne_true, or_parts}, lemmas.Cmp.nat_list_eq_equiv}
use Rattle.std.proofs.{lemmas.List.{length-append, length-map, map-append}, lemmas.List.Edits.length-remove}
use Rattle.std.proofs.lemmas.Option.{none-some, slice_get-map, slice_get_within}
use Rattle.indexmap.proofs.SetLemmas.{map-remove}
use Rattle.portmap_table.specs.Indexes.{IsIndex, AreNamed, AreOwners, Entry, HasEach, IsActiveAt, IsNew, IsRetiredAt}
use Rattle.portmap_table.specs.Indexes.{Puts, TakesIndex, StandsAs, StandsOnce, active_entry, active_in, names_at}
use Rattle.portmap_table.specs.{Indexes.{old_at, old_in, retired_entry, retired_in, row_at, row_in}, Rows.Names}
use Rattle.portmap_table.specs.Rows.{RetiredName, active_row, and_retired, is_active, is_known, known_len, old_name}
use Rattle.portmap_table.specs.Rows.{owns_name, registered, retired_at, retired_last, retired_of, retired_row}
use Rattle.portmap_table.specs.{Rows.{same_name, name_status, with_room, without_at}, declared.entries.NameEntry.NameEntry}
use Rattle.portmap_table.specs.{declared.row.Row.Row, declared.name_status.NameStatus.NameStatus}
use Rattle.portmap_table.proofs.First.{IsFirst, NonePass, finds_none, first_found, first_place, no_index, none_behind}
use Rattle.portmap_table.proofs.{First.{none_found, none_read}, NameEntry.had_name}
use Rattle.portmap_table.proofs.NameLaws.{active_names_stay, known_names_cost_none, oldest_makes_room, room_costs_none}
use Rattle.portmap_table.proofs.{Owners.has_slot, Indexes.{each_pushed, each_removed, each_same, is_first_index}}
use Rattle.portmap_table.proofs.Indexes.{left_others, map_read, none_pass, puts_last, stands_as}
use Rattle.portmap_table.specs.declared.name_status.NameStatus.TheVariants as how

-- ---- an entry is active or retired

record Kind (X : Type 0) : Type 0 where
  entry_of : X → Entry
  value : Option Entry → X
  value_is : (x : X) → value (Some (entry_of x)) ≡ x

abbrev actives : Kind Row
actives = record { entry_of = active_entry; value = row_in; value_is = λ row. refl }

abbrev olds : Kind RetiredName
olds = record { entry_of = retired_entry; value = old_in; value_is = λ old. refl }

same_itself : (name other : List ℕ) → other ≡ name → same_name other name ≡ true
same_itself name other e = ap (λ (n : List ℕ). same_name n name) e ∙ nat_list_eq_equiv.refl name

-- No entry is both active and retired.
never_both : (entries : List Entry) (index : ℕ) → IsActiveAt entries index → IsRetiredAt entries index → ⊥
never_both entries index active retired = search rules

module _ {X : Type 0} (k : Kind X) where
  abbrev IsAt : List Entry → ℕ → Type 0
  IsAt entries index = (x : X) × (slice_get entries index ≡ Some (k.entry_of x))

  abbrev value_at : List Entry → ℕ → X
  value_at entries index = k.value (slice_get entries index)

  abbrev is_named : List ℕ → X → Bool
  is_named name x = same_name (k.entry_of x).0 name

  there : (entries : List Entry) (index : ℕ) (x : X) → slice_get entries index ≡ Some (k.entry_of x) → value_at entries index ≡ x
  there entries index x e = ap k.value e ∙ k.value_is x

  -- The value of the entry is in the list of its kind.
  read : (entries : List Entry) (indexes : List ℕ) (i index : ℕ) (x : X) → slice_get indexes i ≡ Some index
      → slice_get entries index ≡ Some (k.entry_of x) → slice_get (map (value_at entries) indexes) i ≡ Some x
  read entries indexes i index x at e = search (rules, slice_get-map)

  module _ (name : List ℕ) (entries : List Entry) {indexes : List ℕ} (each : HasEach (IsAt entries) indexes) where
    its_place : (q : ℕ) → IsAt entries q → is_named name (value_at entries q) ≡ true
        → (kept : NameEntry) × (slice_get entries q ≡ Some (name, kept))
    its_place q is passes = search rules

    named_first : (i index : ℕ) (x : X) → slice_get indexes i ≡ Some index → slice_get entries index ≡ Some (k.entry_of x)
        → (k.entry_of x).0 ≡ name → StandsOnce name entries index → IsFirst (is_named name) (map (value_at entries) indexes) i
    named_first i index x at e named once =
        is_first_index (value_at entries) (is_named name) indexes i index at
        (ap (is_named name) (there entries index x e) ∙ same_itself name (k.entry_of x).0 named)
        (λ j q r passes. let kept = its_place q (each.sound j q r) passes in each.once j i index (r ∙ ap Some (once q kept.0 kept.1)) at)

    finds : (index : ℕ) (x : X) → slice_get entries index ≡ Some (k.entry_of x) → (k.entry_of x).0 ≡ name → StandsOnce name entries index
        → find (is_named name) (map (value_at entries) indexes) ≡ Some x
    finds index x e named once =
        let at = each.whole index (x, e) in
        first_found (is_named name) (map (value_at entries) indexes) at.0 x (named_first at.0 index x at.1 e named once)
        (read entries indexes at.0 index x at.1 e)

    named_nowhere : ((q : ℕ) → IsAt entries q → (kept : NameEntry) → slice_get entries q ≡ Some (name, kept) → ⊥)
        → NonePass (is_named name) (map (value_at entries) indexes)
    named_nowhere none =
        none_pass (value_at entries) (is_named name) indexes
        (λ j q r. false_from_ne_true (is_named name (value_at entries q))
        (λ passes. let kept = its_place q (each.sound j q r) passes in none q (each.sound j q r) kept.0 kept.1))

    not_there : is_some (find (is_named name) (map (value_at entries) indexes)) ≡ false → (index : ℕ) (x : X)
        → slice_get entries index ≡ Some (k.entry_of x) → (k.entry_of x).0 ≡ name → ⊥
    not_there none index x e named =
        let at = each.whole index (x, e) in
        true≢false (sym (same_itself name (k.entry_of x).0 named)
        ∙ none_read (is_named name) (map (value_at entries) indexes) at.0 x
        (none_found (is_named name) (map (value_at entries) indexes) none) (read entries indexes at.0 index x at.1 e))

    finds_not : ((q : ℕ) → IsAt entries q → (kept : NameEntry) → slice_get entries q ≡ Some (name, kept) → ⊥)
        → find (is_named name) (map (value_at entries) indexes) ≡ None
    finds_not none = finds_none (is_named name) (map (value_at entries) indexes) (named_nowhere none)

  -- ---- an entry is written

  -- The indices of this kind, and the values at them.
  record Stand (entries : List Entry) (indexes : List ℕ) (values : List X) : Type 0 where
    each : HasEach (IsAt entries) indexes
    values_are : map (value_at entries) indexes ≡ values

  module _ {entries new : List Entry} {index : ℕ} {entry : Entry} (puts : Puts entries new index entry) {indexes : List ℕ}
      (each : HasEach (IsAt entries) indexes) where
    stays : (q : ℕ) → q ≢ index → IsAt entries q → IsAt new q
    stays q other is = (is.0, puts.others q other ∙ is.1)

    was : (q : ℕ) → q ≢ index → IsAt new q → IsAt entries q
    was q other is = (is.0, sym (puts.others q other) ∙ is.1)

    same_values : (left : List ℕ) → ((i q : ℕ) → slice_get left i ≡ Some q → q ≢ index)
        → map (value_at new) left ≡ map (value_at entries) left
    same_values left others = map_read (value_at new) (value_at entries) left (λ i q e. ap k.value (puts.others q (others i q e)))

    others_there : (IsAt entries index → ⊥) → (i q : ℕ) → slice_get indexes i ≡ Some q → q ≢ index
    others_there free i q e same = free (subst (IsAt entries) same (each.sound i q e))

    -- The new entry is of this kind, the old entry was not.
    one_more : (x : X) → entry ≡ k.entry_of x → (IsAt entries index → ⊥)
        → Stand new (indexes ++ index ∷ []) (map (value_at entries) indexes ++ x ∷ [])
    one_more x is free =
        let e = puts.there ∙ ap Some is in
        record {
          each = each_pushed indexes index each free (x, e) stays was;
          values_are = search (rules, map-append, same_values);
        }

    -- The old entry was of this kind, the new entry is not.
    one_less : (i : ℕ) → slice_get indexes i ≡ Some index → (IsAt new index → ⊥)
        → Stand new (remove indexes i) (remove (map (value_at entries) indexes) i)
    one_less i at gone = record {
      each = each_removed indexes i index each at gone stays was;
      values_are = same_values (remove indexes i) (left_others indexes i index each at gone stays was)
          ∙ map-remove (value_at entries) indexes i;
    }

    -- Neither the old nor the new entry is of this kind.
    no_more : (IsAt entries index → ⊥) → (IsAt new index → ⊥) → Stand new indexes (map (value_at entries) indexes)
    no_more free gone = record {
      each = each_same indexes each (λ q is. stays q (λ same. free (subst (IsAt entries) same is)) is)
          (λ q is. was q (λ same. gone (subst (IsAt new) same is)) is);
      values_are = same_values indexes (others_there free);
    }

-- ---- lookups by name

-- A name that a lookup finds at `index` is at no other index.
pub stands_once : (name : List ℕ) (entries : List Entry) (found : Option ℕ) (index : ℕ) → found ≡ Some index
    → ((q : ℕ) (kept : NameEntry) → slice_get entries q ≡ Some (name, kept) → found ≡ Some q) → StandsOnce name entries index
stands_once name entries found index e only q kept there = let both : Some q ≡ Some index = sym (only q kept there) ∙ e in cc

-- The status of a name, from its active row and its retired entry.
abbrev how_found : ℕ → ℕ → Option Row → Option RetiredName → NameStatus
how_found known_max active row old =
    if is_some row then how.Active
    else if nat_le known_max active && not (is_some row || is_some old) then how.NoRoom
    else how.Free (option_map (λ old. old.creation) old)

abbrev pub how_kept : Option RetiredName → NameStatus
how_kept None = how.Active
how_kept (Some old) = how.Free (Some old.creation)

how_retired : (over : Bool) (old : RetiredName)
    → (if over && not (false || true) then how.NoRoom else how.Free (Some old.creation)) ≡ how.Free (Some old.creation)
how_retired over old = search rules

module _ {entries : List Entry} {active retired : List ℕ} {owner : ℕ → Option ℕ} (indexed : IsIndex entries active retired owner)
    (name : List ℕ) where
  -- A lookup by name returns the entry at the name's index.
  pub found_active : (index : ℕ) → StandsAs name entries index → StandsOnce name entries index
      → active_row name (names_at entries active retired) ≡ active_in (slice_get entries index)
  found_active index (inl row) once = finds actives name entries indexed.active_indexes index row.0 row.1 row.2 once
      ∙ sym (ap active_in row.1)
  found_active index (inr old) once =
      finds_not actives name entries indexed.active_indexes
      (λ q is kept e. never_both entries index (subst (IsActiveAt entries) (once q kept e) is) (old.0, old.1))
      ∙ sym (ap active_in old.1)

  found_old : (index : ℕ) → StandsAs name entries index → StandsOnce name entries index
      → retired_row name (names_at entries active retired) ≡ retired_in (slice_get entries index)
  found_old index (inl row) once =
      finds_not olds name entries indexed.retired_indexes
      (λ q is kept e. never_both entries index (row.0, row.1) (subst (IsRetiredAt entries) (once q kept e) is))
      ∙ sym (ap retired_in row.1)
  found_old index (inr old) once = finds olds name entries indexed.retired_indexes index old.0 old.1 old.2 once ∙ sym (ap retired_in old.1)

  pub no_active : IsNew name entries → active_row name (names_at entries active retired) ≡ None
  no_active fresh = finds_not actives name entries indexed.active_indexes (λ q is. fresh q)

  no_old : IsNew name entries → NonePass (had_name name) (map (old_at entries) retired)
  no_old fresh = named_nowhere olds name entries indexed.retired_indexes (λ q is. fresh q)

  unknown : IsNew name entries → is_known name (names_at entries active retired) ≡ false
  unknown fresh = λ i. is_some (no_active fresh i) || is_some (finds_none (had_name name) (map (old_at entries) retired) (no_old fresh) i)

  pub stands_kept : (known_max index : ℕ) → StandsAs name entries index → StandsOnce name entries index
      → name_status known_max name (names_at entries active retired) ≡ how_kept (retired_in (slice_get entries index))
  stands_kept known_max index stands once =
      (λ i. how_found known_max (length (map (row_at entries) active)) (found_active index stands once i) (found_old index stands once i))
      ∙ by stands
    where
      by : StandsAs name entries index → how_found known_max (length (map (row_at entries) active)) (active_in (slice_get entries index))
          (retired_in (slice_get entries index)) ≡ how_kept (retired_in (slice_get entries index))
      by (inl row) = rw row.1 refl
      by (inr old) = rw old.1 (how_retired (nat_le known_max (length (map (row_at entries) active))) old.0)

  pub stands_new : (known_max : ℕ) (over : Bool) → IsNew name entries → nat_le known_max (length active) ≡ over
      → name_status known_max name (names_at entries active retired) ≡ (if over then how.NoRoom else how.Free None)
  stands_new known_max over fresh e = search (rules, finds_none, length-map, no_active, no_old)

  -- A name that is not active is in no active entry.
  pub inactive_there : is_active name (names_at entries active retired) ≡ false → (index : ℕ) (row : Row)
      → slice_get entries index ≡ Some (active_entry row) → row.reg.name ≡ name → ⊥
  inactive_there inactive index row e named = not_there actives name entries indexed.active_indexes inactive index row e named

  -- A name that is not known is in no entry.
  pub unknown_there : is_known name (names_at entries active retired) ≡ false → AreNamed entries → IsNew name entries
  unknown_there not_known named index kept e = elim (stands_as name entries index kept named e) [
    | inl row ↦ inactive_there (or_parts _ _ not_known).0 index row.0 row.1 row.2
    | inr old ↦ not_there olds name entries indexed.retired_indexes
        (or_parts (is_active name (names_at entries active retired)) _ not_known).1 index old.0 old.1 old.2
  ]

-- ---- lookups by slot

module _ {entries : List Entry} {active retired : List ℕ} {owner : ℕ → Option ℕ} (indexed : IsIndex entries active retired owner)
    (slot : ℕ) where
  of_slot : (j q : ℕ) → slice_get active j ≡ Some q → has_slot slot (row_at entries q) ≡ true → owner slot ≡ Some q
  of_slot j q e passes = search rules

  pub slot_index : (index i : ℕ) → owner slot ≡ Some index → slice_get active i ≡ Some index
      → position (has_slot slot) (map (row_at entries) active) ≡ Some i
  slot_index index i owned at =
      let row = indexed.owners.slots slot index owned in
      first_place (has_slot slot) (map (row_at entries) active) i
      (is_first_index (row_at entries) (has_slot slot) active i index at
      (ap (has_slot slot) (there actives entries index row.0 row.1) ∙ eq-eqb row.0.slot slot row.2)
      (λ j q e passes. indexed.active_indexes.once j i index (e ∙ sym (of_slot j q e passes) ∙ owned) at))

  no_slot_place : owner slot ≡ None → position (has_slot slot) (map (row_at entries) active) ≡ None
  no_slot_place none =
      no_index (has_slot slot) (map (row_at entries) active)
      (none_pass (row_at entries) (has_slot slot) active
      (λ j q e. false_from_ne_true (has_slot slot (row_at entries q)) (λ passes. none-some q (sym none ∙ of_slot j q e passes))))

  pub owns_indexed : owns_name slot (names_at entries active retired) ≡ is_some (owner slot)
  owns_indexed = by (owner slot) refl
    where
      by : (o : Option ℕ) → owner slot ≡ o → owns_name slot (names_at entries active retired) ≡ is_some o
      by None e = ap is_some (no_slot_place e)
      by (Some index) e =
          let row = indexed.owners.slots slot index e in
          let at = indexed.active_indexes.whole index (row.0, row.1) in
          ap is_some (slot_index index at.0 e at.1)

  pub stays_whole : owner slot ≡ None → retired_of slot (names_at entries active retired) ≡ names_at entries active retired
  stays_whole none = ap (λ (o : Option ℕ). retired_at o (names_at entries active retired)) (no_slot_place none)

-- ---- owners

-- An active name is added.
owners_more : {entries new : List Entry} {at : ℕ} {row : Row} {owner owner' : ℕ → Option ℕ} → Puts entries new at (active_entry row)
    → (IsActiveAt entries at → ⊥) → AreOwners entries owner → owner row.slot ≡ None
    → owner' row.slot ≡ Some at → ((q : ℕ) → q ≢ row.slot → owner' q ≡ owner q) → AreOwners new owner'
owners_more {entries} {new} {at} {row} {owner} {owner'} puts free owners none there others = search rules

-- The active name at `at` retires.
owners_less : {entries new : List Entry} {at : ℕ} {old : RetiredName} {owner owner' : ℕ → Option ℕ}
    → Puts entries new at (retired_entry old) → AreOwners entries owner
    → ((q index : ℕ) → index ≢ at → owner q ≡ Some index → owner' q ≡ Some index)
    → ((q index : ℕ) → owner' q ≡ Some index → (index ≢ at) × (owner q ≡ Some index)) → AreOwners new owner'
owners_less {entries} {new} {at} {old} puts owners stay were = record {
  active = λ index r e. elim (cases_eq index at) [
    | inl same ↦ absurd (never_both new at (r, ap (slice_get new) (sym same) ∙ e) (old, puts.there))
    | inr other ↦ stay r.slot index other (owners.active index r (sym (puts.others index other) ∙ e))
  ];
  slots = search rules;
}

-- ---- a retirement, complete

module _ {entries new : List Entry} {active retired : List ℕ} {owner : ℕ → Option ℕ} (owner' : ℕ → Option ℕ) (slot index i : ℕ)
    (indexed : IsIndex entries active retired owner) (owned : owner slot ≡ Some index)
    (puts : (row : Row) → slice_get entries index ≡ Some (active_entry row) → Puts entries new index (retired_entry (old_name row)))
    (len : length new ≡ length entries) (at : slice_get active i ≡ Some index)
    (none : owner' slot ≡ None) (others : (q : ℕ) → q ≢ slot → owner' q ≡ owner q) where
  abbrev mine : (row : Row) × (slice_get entries index ≡ Some (active_entry row)) × (row.slot ≡ slot)
  mine = indexed.owners.slots slot index owned

  abbrev changed : Puts entries new index (retired_entry (old_name mine.0))
  changed = puts mine.0 mine.1

  rows_left : Stand actives new (remove active i) (remove (map (row_at entries) active) i)
  rows_left = one_less actives changed indexed.active_indexes i at (λ is. never_both new index is (old_name mine.0, changed.there))

  olds_left : Stand olds new (retired ++ index ∷ []) (map (old_at entries) retired ++ old_name mine.0 ∷ [])
  olds_left = one_more olds changed indexed.retired_indexes (old_name mine.0) refl (λ is. never_both entries index (mine.0, mine.1) is)

  pub retires_names : names_at new (remove active i) (retired ++ index ∷ []) ≡ retired_of slot (names_at entries active retired)
  retires_names =
      (λ j. record { active = rows_left.values_are j; retired = olds_left.values_are j })
      ∙ sym (ap (λ (o : Option ℕ). retired_at o (names_at entries active retired)) (slot_index indexed slot index i owned at)
      ∙ ap (λ (o : Option Row). retired_last i o (names_at entries active retired))
      (read actives entries active i index mine.0 at mine.1))

  pub retires_places : IsIndex new (remove active i) (retired ++ index ∷ []) owner'
  retires_places = record {
    active_indexes = rows_left.each;
    retired_indexes = olds_left.each;
    owners = search rules;
    count = search (rules, length-append, length-remove, slice_get_within);
  }

-- ---- a retired name is appended

module _ {entries : List Entry} {active retired : List ℕ} {owner : ℕ → Option ℕ} (indexed : IsIndex entries active retired owner)
    (old : RetiredName) where
  abbrev last : ℕ
  last = length entries

  abbrev longer : List Entry
  longer = entries ++ retired_entry old ∷ []

  past : (entry : Entry) (index : ℕ) → slice_get entries index ≡ Some entry → index ≢ last
  past entry index e same = absurd (omega (arith, same, slice_get_within entries index entry e))

  rows_stay : Stand actives longer active (map (row_at entries) active)
  rows_stay = no_more actives (puts_last entries (retired_entry old)) indexed.active_indexes (λ is. past (active_entry is.0) last is.1 refl)
      (λ is. never_both longer last is (old, (puts_last entries (retired_entry old)).there))

  olds_more : Stand olds longer (retired ++ last ∷ []) (map (old_at entries) retired ++ old ∷ [])
  olds_more = one_more olds (puts_last entries (retired_entry old)) indexed.retired_indexes old refl
      (λ is. past (retired_entry is.0) last is.1 refl)

  pub appended_names : names_at longer active (retired ++ last ∷ []) ≡ and_retired (names_at entries active retired) old
  appended_names = λ i. record { active = rows_stay.values_are i; retired = olds_more.values_are i }

  pub appended_places : IsIndex longer active (retired ++ last ∷ []) owner
  appended_places = record {
    active_indexes = rows_stay.each;
    retired_indexes = olds_more.each;
    owners = owners_less (puts_last entries (retired_entry old)) indexed.owners (λ q index other e. e)
        (λ q index e. let row = indexed.owners.slots q index e in (past (active_entry row.0) index row.1, e));
    count = omega (arith, length-append retired (last ∷ []), length-append entries (retired_entry old ∷ []), indexed.count);
  }

-- ---- a registration, complete

no_first : (xs : List RetiredName) → remove xs 0 ≡ drop 1 xs
no_first xs = search rules

module _ {entries new : List Entry} {active retired left : List ℕ} {owner : ℕ → Option ℕ} {known_max index : ℕ} {row : Row}
    (indexed : IsIndex entries active retired owner) (settles : TakesIndex known_max row entries new retired left index)
    (inactive : is_active row.reg.name (names_at entries active retired) ≡ false) where
  abbrev names : Names
  names = names_at entries active retired

  abbrev roomy : Names
  roomy = with_room known_max row.reg.name names

  len_names : known_len names ≡ length entries
  len_names = omega (arith, length-map active (row_at entries), length-map retired (old_at entries), indexed.count)

  free : IsActiveAt entries index → ⊥
  free is = search (rules, slice_get_within)

  gone : IsRetiredAt new index → ⊥
  gone is = never_both new index (row, settles.puts.there) is

  rows_with : Stand actives new (active ++ index ∷ []) (map (row_at entries) active ++ row ∷ [])
  rows_with = one_more actives settles.puts indexed.active_indexes row refl free

  -- The retired names after the name was removed from them.
  taken : (o : Option ℕ) (xs : List RetiredName) → roomy.retired ≡ xs → position (had_name row.reg.name) xs ≡ o
      → without_at o xs ≡ without_at (position (had_name row.reg.name) roomy.retired) roomy.retired
  taken o xs is at = search rules

  stand_left : {indexes : List ℕ} {values values' : List RetiredName} → left ≡ indexes → Stand olds new indexes values → values ≡ values'
      → Stand olds new left values'
  stand_left is stand same = rw (is, ← same) stand

  olds_with : Stand olds new left (without_at (position (had_name row.reg.name) roomy.retired) roomy.retired)
  olds_with =
      let xs = map (old_at entries) retired in
      elim settles.how [
        | inl r ↦
            let i = r.out.0 in
            let at = first_place (had_name row.reg.name) xs i
            (named_first olds row.reg.name entries indexed.retired_indexes i index r.known.0 r.out.1 r.known.1 r.known.2 r.once) in
            let known : is_known row.reg.name names ≡ true = λ j.
            inactive j || is_some
            (finds olds row.reg.name entries indexed.retired_indexes index r.known.0 r.known.1 r.known.2 r.once j) in
            stand_left r.out.2 (one_less olds settles.puts indexed.retired_indexes i r.out.1 gone)
            (taken (Some i) xs (ap (λ (n : Names). n.retired) (known_names_cost_none known_max names row.reg.name known)) at)
        | inr f ↦ elim f [
          | inl a ↦
              stand_left a.same (no_more olds settles.puts indexed.retired_indexes
              (λ is. absurd (omega (arith, a.last, slice_get_within entries index (retired_entry is.0) is.1))) gone)
              (taken None xs (ap (λ (n : Names). n.retired)
              (room_costs_none known_max names row.reg.name (omega (arith, a.few, len_names))))
              (no_index (had_name row.reg.name) xs (no_old indexed row.reg.name a.fresh)))
          | inr p ↦
              stand_left p.out (one_less olds settles.puts indexed.retired_indexes 0 p.oldest gone)
              (no_first xs ∙ taken None (drop 1 xs) (oldest_makes_room known_max names row.reg.name (omega (arith, p.many, len_names))
              (unknown indexed row.reg.name p.fresh))
              (no_index (had_name row.reg.name) (drop 1 xs)
              (none_behind (had_name row.reg.name) 1 xs (no_old indexed row.reg.name p.fresh))))
        ]
      ]

  pub settled_names : names_at new (active ++ index ∷ []) left ≡ registered row.reg row.creation row.slot roomy
  settled_names = λ i. record {
    active = (rows_with.values_are
        ∙ ap (λ (rows : List Row). rows ++ row ∷ []) (sym (active_names_stay known_max names row.reg.name))) i;
    retired = olds_with.values_are i;
  }

  pub settled_places : (owner' : ℕ → Option ℕ) → owner row.slot ≡ None → owner' row.slot ≡ Some index
      → ((q : ℕ) → q ≢ row.slot → owner' q ≡ owner q) → IsIndex new (active ++ index ∷ []) left owner'
  settled_places owner' none there others = record {
    active_indexes = rows_with.each;
    retired_indexes = olds_with.each;
    owners = owners_more settles.puts free indexed.owners none there others;
    count = omega (arith, length-append active (index ∷ []), settles.count, indexed.count);
  }
