-- Entries at indices, after an entry is overwritten, added or replaced.
use Rattle.std.specs.{List.IsDistinct, Map.lookup}
use Rattle.std.specs.Prelude.{is_some, option_map, position, slice_get, slice_set, swap_remove, remove}
use Rattle.std.proofs.Common.{◌≡◌, ◌≢◌, ℕ, zero, suc, ◌<◌, Bool, true, false, List, [], ◌∷◌, ◌++◌, length, map, get_or}
use Rattle.std.proofs.Common.{Option, Some, None, refl, sym, ap, ◌∙◌, subst, arith, inl, inr, ◌⊎◌, rules}
use Rattle.std.proofs.{Math.Seq.get_or-append_seam, lemmas.Bool.cases_eq, lemmas.Cmp.nat_list_eq_equiv}
use Rattle.std.proofs.lemmas.List.{get_or-map, length-append, length-map, length-set, get_or-set_same, set-append_left}
use Rattle.std.proofs.{lemmas.List.take_at, lemmas.List.Quantifiers.position-Some}
use Rattle.std.proofs.lemmas.Option.{slice_get-get_or, slice_get-map, slice_get_within}
use Rattle.indexmap.specs.IndexMap.{set_value_at}
use Rattle.indexmap.proofs.{MapLemmas.{index-first, some_index}, RemoveLemmas.own_first}
use Rattle.portmap_table.specs.{Indexes.{AreNamed, Entry, IsNamed, IsNew, Puts, StandsAs, HasEach}, Rows.same_name}
use Rattle.portmap_table.specs.declared.entries.NameEntry.{NameEntry, TheVariants.{Active, Retired}}
use Rattle.portmap_table.proofs.{Finding.is_none, First.{IsFirst, NonePass}}

-- ---- elements at indices

pub push_there : {X : Type 0} (xs : List X) (x : X) → slice_get (xs ++ x ∷ []) (length xs) ≡ Some x
push_there [] x = refl
push_there (y ∷ xs) x = push_there xs x

pub push_others : {X : Type 0} (xs : List X) (x : X) (i : ℕ) → i ≢ length xs → slice_get (xs ++ x ∷ []) i ≡ slice_get xs i
push_others [] x zero other = absurd (other refl)
push_others [] x (suc i) other = refl
push_others (y ∷ xs) x zero other = refl
push_others (y ∷ xs) x (suc i) other = push_others xs x i (λ e. other (ap suc e))

set_there : {X : Type 0} (xs : List X) (at : ℕ) (x : X) → at < length xs → slice_get (slice_set xs at x) at ≡ Some x
set_there xs at x lt = slice_get-get_or (slice_set xs at x) at x (omega (arith, lt, length-set xs at x))
    ∙ ap Some (get_or-set_same xs at x x lt)

set_others : {X : Type 0} (xs : List X) (at : ℕ) (x : X) (i : ℕ) → i ≢ at → slice_get (slice_set xs at x) i ≡ slice_get xs i
set_others [] at x i other = refl
set_others (y ∷ xs) zero x zero other = absurd (other refl)
set_others (y ∷ xs) zero x (suc i) other = refl
set_others (y ∷ xs) (suc at) x zero other = refl
set_others (y ∷ xs) (suc at) x (suc i) other = set_others xs at x i (λ e. other (ap suc e))

-- Appending an element and swap-removing at `at` replaces the element at `at`.
swap_remove_push : {X : Type 0} (xs : List X) (x d : X) (at : ℕ) → at < length xs → swap_remove (xs ++ x ∷ []) at d ≡ slice_set xs at x
swap_remove_push xs x d at lt = search (rules, get_or-append_seam, length-append, set-append_left, take_at)

-- ---- entries

-- Appending puts the entry at the last index.
pub puts_last : (entries : List Entry) (entry : Entry) → Puts entries (entries ++ entry ∷ []) (length entries) entry
puts_last entries entry = record { there = push_there entries entry; others = push_others entries entry }

-- Appending an entry and swap-removing at `at` puts the entry at `at`.
pub puts_swapped : (entries : List Entry) (entry d : Entry) (at : ℕ) → at < length entries
    → Puts entries (swap_remove (entries ++ entry ∷ []) at d) at entry
puts_swapped entries entry d at lt = search (rules, set_others, set_there, swap_remove_push)

-- Overwriting the value of an entry keeps its name.
written_there : (entries : List Entry) (at : ℕ) (name : List ℕ) (was kept : NameEntry) → slice_get entries at ≡ Some (name, was)
    → slice_get (set_value_at entries at kept) at ≡ Some (name, kept)
written_there [] at name was kept e = absurd cc
written_there (x ∷ entries) zero name was kept e = let same : x ≡ (name, was) = cc in ap (λ (y : Entry). Some (y.0, kept)) same
written_there (x ∷ entries) (suc at) name was kept e = written_there entries at name was kept e

written_others : (entries : List Entry) (at : ℕ) (kept : NameEntry) (index : ℕ) → index ≢ at
    → slice_get (set_value_at entries at kept) index ≡ slice_get entries index
written_others [] at kept index other = refl
written_others (x ∷ entries) zero kept zero other = absurd (other refl)
written_others (x ∷ entries) zero kept (suc index) other = refl
written_others (x ∷ entries) (suc at) kept zero other = refl
written_others (x ∷ entries) (suc at) kept (suc index) other = written_others entries at kept index (λ e. other (ap suc e))

pub puts_written : (entries : List Entry) (at : ℕ) (name : List ℕ) (was kept : NameEntry) → slice_get entries at ≡ Some (name, was)
    → Puts entries (set_value_at entries at kept) at (name, kept)
puts_written entries at name was kept e = search (rules, written_others, written_there)

-- ---- names

pub is_it : {X : Type 0} (o : Option X) (x y : X) → o ≡ Some x → o ≡ Some y → x ≡ y
is_it o x y e f = let both : Some x ≡ Some y = sym e ∙ f in cc

pub named_after : (old new : List Entry) (at : ℕ) (entry : Entry) → Puts old new at entry → IsNamed entry → AreNamed old → AreNamed new
named_after old new at entry puts named all index other e = search rules

pub named_before : (entries : List Entry) (entry : Entry) → AreNamed (entries ++ entry ∷ []) → AreNamed entries
named_before entries entry all index other e =
    all index other (push_others entries entry index (λ same. absurd (omega (arith, same, slice_get_within entries index other e))) ∙ e)

-- ---- the index of a name

abbrev pub key_of : Entry → List ℕ
key_of entry = entry.0

pub place_read : (name : List ℕ) (entries : List Entry) (at : ℕ) → position (same_name name) (map key_of entries) ≡ Some at
    → (kept : NameEntry) × (slice_get entries at ≡ Some (name, kept))
place_read name entries at e =
    let d : Entry = (name, Retired 0 0) in
    let found = position-Some (same_name name) (map key_of entries) at name e in
    let lt : at < length entries = omega (arith, found.0, length-map entries key_of) in
    let entry = get_or entries at d in
    let same : name ≡ entry.0 = search (rules, get_or-map) in
    (entry.1, slice_get-get_or entries at d lt ∙ ap (λ (n : List ℕ). Some (n, entry.1)) (sym same))

pub read_place : (name : List ℕ) (entries : List Entry) (at : ℕ) (kept : NameEntry) → IsDistinct same_name (map key_of entries)
    → slice_get entries at ≡ Some (name, kept) → position (same_name name) (map key_of entries) ≡ Some at
read_place name entries at kept d e = index-first (same_name name) entries at
    (own_first same_name nat_list_eq_equiv entries at name kept d e)

pub new_found : (name : List ℕ) (entries : List Entry) → IsNew name entries → lookup (same_name name) entries ≡ None
new_found name entries none = is_none (lookup (same_name name) entries)
    (sym (some_index (same_name name) entries) ∙ ap is_some (by (position (same_name name) (map key_of entries)) refl))
  where
    by : (index : Option ℕ) → position (same_name name) (map key_of entries) ≡ index → position (same_name name) (map key_of entries) ≡ None
    by None e = e
    by (Some index) e = let read = place_read name entries index e in absurd (none index read.0 read.1)

-- The value of the entry at index `i`.
pub read_kept : (entries : List Entry) (i : ℕ) (entry : Entry) → slice_get entries i ≡ Some entry
    → slice_get (map (λ (e : Entry). e.1) entries) i ≡ Some (entry.1)
read_kept entries i entry e = slice_get-map (λ (e : Entry). e.1) entries i ∙ ap (option_map (λ (e : Entry). e.1)) e

-- An entry is that of an active or of a retired name.
pub stands_as : (name : List ℕ) (entries : List Entry) (index : ℕ) (kept : NameEntry) → AreNamed entries
    → slice_get entries index ≡ Some (name, kept) → StandsAs name entries index
stands_as name entries index (Active row) named e =
    let same : name ≡ row.reg.name = named index (name, Active row) e in
    inl (row, e ∙ ap (λ (n : List ℕ). Some (n, Active row)) same, sym same)
stands_as name entries index (Retired port creation) named e = inr (record { name = name; port = port; creation = creation }, e, refl)

pub kept_there : (name : List ℕ) (entries : List Entry) (index : ℕ) → StandsAs name entries index
    → (kept : NameEntry) × (slice_get entries index ≡ Some (name, kept))
kept_there name entries index o = search rules

-- ---- lists that contain each index of a kind once: an index is added

module _ {Is Is' : ℕ → Type 0} (indexes : List ℕ) (index : ℕ) (each : HasEach Is indexes) (fresh : Is index → ⊥) (there : Is' index)
    (stay : (q : ℕ) → q ≢ index → Is q → Is' q) (were : (q : ℕ) → q ≢ index → Is' q → Is q) where
  -- An index that is read is the new index, at the end, or an old index.
  read_pushed : (i q : ℕ) → slice_get (indexes ++ index ∷ []) i ≡ Some q
      → ((i ≡ length indexes) × (q ≡ index)) ⊎ ((slice_get indexes i ≡ Some q) × (q ≢ index))
  read_pushed i q e = search (rules, push_others, push_there)

  once_pushed : (i j q : ℕ) → slice_get (indexes ++ index ∷ []) i ≡ Some q → slice_get (indexes ++ index ∷ []) j ≡ Some q → i ≡ j
  once_pushed i j q one two = by (read_pushed i q one) (read_pushed j q two)
    where
      by : ((i ≡ length indexes) × (q ≡ index)) ⊎ ((slice_get indexes i ≡ Some q) × (q ≢ index))
          → ((j ≡ length indexes) × (q ≡ index)) ⊎ ((slice_get indexes j ≡ Some q) × (q ≢ index)) → i ≡ j
      by (inl a) (inl b) = a.0 ∙ sym b.0
      by (inl a) (inr b) = absurd (b.1 a.1)
      by (inr a) (inl b) = absurd (a.1 b.1)
      by (inr a) (inr b) = each.once i j q a.0 b.0

  pub each_pushed : HasEach Is' (indexes ++ index ∷ [])
  each_pushed = record {
    sound = search (rules, read_pushed);
    whole = λ q is. elim (cases_eq q index) [
      | inl same ↦ (length indexes, push_there indexes index ∙ ap Some (sym same))
      | inr other ↦ search (rules, push_others, slice_get_within)
    ];
    once = once_pushed;
  }

-- ---- an index is removed

-- The position, before the element at `k` was removed, of the element that is now at `i`.
skip : ℕ → ℕ → ℕ
skip zero i = suc i
skip (suc k) zero = zero
skip (suc k) (suc i) = suc (skip k i)

read_removed : (xs : List ℕ) (k i : ℕ) → slice_get (remove xs k) i ≡ slice_get xs (skip k i)
unfolding skip
read_removed [] zero i = refl
read_removed [] (suc k) zero = refl
read_removed [] (suc k) (suc i) = refl
read_removed (x ∷ xs) zero i = refl
read_removed (x ∷ xs) (suc k) zero = refl
read_removed (x ∷ xs) (suc k) (suc i) = read_removed xs k i

skips : (k i : ℕ) → skip k i ≢ k
unfolding skip
skips zero i e = absurd (omega (arith, e))
skips (suc k) zero e = absurd (omega (arith, e))
skips (suc k) (suc i) e = skips k i (omega (arith, e))

skip_once : (k i j : ℕ) → skip k i ≡ skip k j → i ≡ j
unfolding skip
skip_once zero i j e = omega (arith, e)
skip_once (suc k) zero zero e = refl
skip_once (suc k) zero (suc j) e = absurd (omega (arith, e))
skip_once (suc k) (suc i) zero e = absurd (omega (arith, e))
skip_once (suc k) (suc i) (suc j) e = ap suc (skip_once k i j (omega (arith, e)))

unskip : (k j : ℕ) → j ≢ k → (i : ℕ) × (skip k i ≡ j)
unfolding skip
unskip zero zero other = absurd (other refl)
unskip zero (suc j) other = (j, refl)
unskip (suc k) zero other = (zero, refl)
unskip (suc k) (suc j) other = let before = unskip k j (λ e. other (ap suc e)) in (suc before.0, ap suc before.1)

module _ {Is Is' : ℕ → Type 0} (indexes : List ℕ) (k index : ℕ) (each : HasEach Is indexes) (at : slice_get indexes k ≡ Some index)
    (gone : Is' index → ⊥)
    (stay : (q : ℕ) → q ≢ index → Is q → Is' q) (were : (q : ℕ) → q ≢ index → Is' q → Is q) where
  other_left : (i q : ℕ) → slice_get (remove indexes k) i ≡ Some q → q ≢ index
  other_left i q e same = skips k i (each.once (skip k i) k index (sym (read_removed indexes k i) ∙ e ∙ ap Some same) at)

  pub each_removed : HasEach Is' (remove indexes k)
  each_removed = record {
    sound = λ i q e. stay q (other_left i q e) (each.sound (skip k i) q (sym (read_removed indexes k i) ∙ e));
    whole = λ q is.
        let other : q ≢ index = λ same. gone (subst Is' same is) in
        let before = each.whole q (were q other is) in
        let left = unskip k before.0 (λ same. other
        (is_it (slice_get indexes before.0) q index before.1 (ap (slice_get indexes) same ∙ at))) in
        (left.0, read_removed indexes k left.0 ∙ ap (slice_get indexes) left.1 ∙ before.1);
    once = search (rules, read_removed, skip_once);
  }

  -- The remaining indices differ from the removed index.
  pub left_others : (i q : ℕ) → slice_get (remove indexes k) i ≡ Some q → q ≢ index
  left_others = other_left

-- ---- no index is added or removed

pub each_same : {Is Is' : ℕ → Type 0} (indexes : List ℕ) → HasEach Is indexes → ((q : ℕ) → Is q → Is' q) → ((q : ℕ) → Is' q → Is q)
    → HasEach Is' indexes
each_same indexes each to from = search rules

-- ---- values at the indices

-- Two functions that agree on all listed indices map the list alike.
pub map_read : {X : Type 0} (f g : ℕ → X) (indexes : List ℕ) → ((i q : ℕ) → slice_get indexes i ≡ Some q → f q ≡ g q)
    → map f indexes ≡ map g indexes
map_read f g [] same = refl
map_read f g (p ∷ indexes) same = λ i. same zero p refl i ∷ map_read f g indexes (λ j q e. same (suc j) q e) i

module _ {X : Type 0} (f : ℕ → X) (test : X → Bool) where
  pub is_first_index : (indexes : List ℕ) (i index : ℕ) → slice_get indexes i ≡ Some index → test (f index) ≡ true
      → ((j q : ℕ) → slice_get indexes j ≡ Some q → test (f q) ≡ true → j ≡ i) → IsFirst test (map f indexes) i
  is_first_index [] i index e passes only = absurd cc
  is_first_index (p ∷ indexes) zero index e passes only = let same : p ≡ index = cc in ap (λ (q : ℕ). test (f q)) same ∙ passes
  is_first_index (p ∷ indexes) (suc i) index e passes only =
      (by (test (f p)) refl, is_first_index indexes i index e passes (λ j q r t. omega (arith, only (suc j) q r t)))
    where
      by : (b : Bool) → test (f p) ≡ b → test (f p) ≡ false
      by true t = absurd (omega (arith, only zero p refl t))
      by false t = t

  pub none_pass : (indexes : List ℕ) → ((j q : ℕ) → slice_get indexes j ≡ Some q → test (f q) ≡ false) → NonePass test (map f indexes)
  none_pass [] none = tt
  none_pass (p ∷ indexes) none = (none zero p refl, none_pass indexes (λ j q r. none (suc j) q r))
