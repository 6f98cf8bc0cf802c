-- Open connections by rising slot, as a finite map.
use Rattle.std.specs.{Cmp.{nat_cmp_is, nat_cmp_total}, FinMap.nat_cmp-IsAntisymmetric}
use Rattle.std.specs.FinMap.Entries.{below_all, find-where_key, is_sorted-put, is_sorted-where_key, where_key}
use Rattle.std.specs.List.{AllAdjacentBelow, HoldsAt}
use Rattle.std.specs.List.Sorted.{IsBinarySearchResult, IsPartitionPoint, IsSearchInRange}
use Rattle.std.specs.Ordering.{nat_cmp, eq_by_cmp, is_lt}
use Rattle.std.specs.Prelude.{is_some, All, T, ◌&&◌, not, insert, map as list_map, remove, MatchResult}
use Rattle.std.specs.declared.cmp.Ordering.TheVariants.{Less}
use Rattle.std.proofs.Common.{◌≡◌, ◌≢◌, ℕ, suc, zero, ◌+◌, ◌<◌, ◌≤◌, Bool, true, List, [], ◌∷◌, ◌++◌, length, get_or}
use Rattle.std.proofs.Common.{set, take, drop, Some, None, Result, Ok, Err, refl, sym, ap, subst, ◌∙◌, arith, rules}
use Rattle.std.proofs.{lemmas.Bool.Decides.nat_tests, lemmas.Cmp.ranked}
use Rattle.std.proofs.lemmas.List.{append-nil, get_or_default, length-map}
use Rattle.std.proofs.lemmas.List.Elements.{All-append, All-cons, All-drop, All-head, All-set, All-tail, All-take}
use Rattle.std.specs.FinMap as tree
use Rattle.portmap_core.specs.{Connections.{ConnectionMap, SlotsRise}, Held.{AreHeld, HeldValue, IsAt, IsGapFor}}
use Rattle.portmap_core.specs.Held.{IsHeld, IsKeptFor, connection_held, connections_held, entries_held, entry_held}
use Rattle.portmap_core.specs.{Held.stage_held, State.phase_of_stage, declared.connection.Connection.Connection}
use Rattle.portmap_core.specs.{declared.connection.Phase.{Phase, TheVariants.Waiting}, declared.connection.Stage.Stage}
use Rattle.portmap_core.proofs.Slots.{none_open, same}
use Rattle.portmap_core.specs.declared.connection.Stage.TheVariants as stage

abbrev pub any_held : HeldValue
any_held = record { slot = 0; local = true; phase = Waiting; bytes = [] }

-- ---- order

pub parts : (a b : Bool) → T (a && b) → T a × T b
parts a b p = search rules

behind : (x : HeldValue) (held : List HeldValue) → SlotsRise (entries_held (x ∷ held)) → SlotsRise (entries_held held)
behind x held rise = (parts _ _ rise).1

pub above : (q : ℕ) (held : List HeldValue) → T (below_all nat_cmp q (entries_held held)) → (j : ℕ) (d : HeldValue) → j < length held
    → q < (get_or held j d).slot
above q [] t j d lt = absurd (omega arith)
above q (h ∷ held) t zero d lt = let first : T (is_lt (nat_cmp q h.slot)) = (parts _ _ t).0 in grind (arith, nat_tests, first)
above q (h ∷ held) t (suc j) d lt = above q held (parts _ _ t).1 j d (omega arith)

pub rising : (held : List HeldValue) (i j : ℕ) (d : HeldValue) → SlotsRise (entries_held held) → i < j → j < length held
    → (get_or held i d).slot < (get_or held j d).slot
rising [] i j d t lt within = absurd (omega arith)
rising (x ∷ held) i zero d t lt within = absurd (omega arith)
rising (x ∷ held) zero (suc j) d t lt within = above x.slot held (parts _ _ t).0 j d (omega arith)
rising (x ∷ held) (suc i) (suc j) d t lt within = rising held i j d (parts _ _ t).1 (omega arith) (omega arith)

pub rise_by : (held : List HeldValue) → AllAdjacentBelow (λ x y. x.slot < y.slot) held (length held) → SlotsRise (entries_held held)
rise_by [] each = tt
rise_by (x ∷ []) each = tt
rise_by (x ∷ y ∷ held) each =
    let rest : SlotsRise (entries_held (y ∷ held)) =
    rise_by (y ∷ held) (λ k d lt. let next : suc k + 1 ≡ suc (k + 1) = omega arith in rw next at (each (suc k) d (omega arith))) in
    let e : nat_cmp x.slot y.slot ≡ Less = sym (nat_cmp_is x.slot y.slot Less (each 0 x (omega arith))) in
    rw e at (is_sorted-put nat_cmp nat_cmp_total x.slot (connection_held x) (entries_held (y ∷ held)) rest)

-- ---- indices

none : (q : ℕ) (held : List HeldValue) → All (λ h. q ≢ h.slot) held → tree.find nat_cmp q (entries_held held) ≡ None
none q [] others = refl
none q (x ∷ held) others = grind (arith, nat_tests, others zero x (omega arith), none q held (All-tail (λ h. q ≢ h.slot) x held others))

pub found : (held : List HeldValue) (k : ℕ) (d : HeldValue) → SlotsRise (entries_held held) → k < length held
    → tree.find nat_cmp (get_or held k d).slot (entries_held held) ≡ Some (connection_held (get_or held k d))
found [] k d rise lt = absurd (omega arith)
found (x ∷ held) zero d rise lt = grind (arith, nat_tests)
found (x ∷ held) (suc k) d rise lt =
    let far : x.slot < (get_or held k d).slot = above x.slot held (parts _ _ rise).0 k d (omega arith) in
    grind (arith, nat_tests, far, found held k d (behind x held rise) (omega arith))

-- ---- the map

pub entries_of : (held : List HeldValue) → SlotsRise (entries_held held) → tree.entries (connections_held held) ≡ entries_held held
entries_of held rise = tree.entries-from_sorted nat_cmp (entries_held held) rise

pub len_held : (held : List HeldValue) → AreHeld held → tree.len (connections_held held) ≡ length held
len_held held are = tree.len-entries (connections_held held) ∙ ap length (entries_of held are.rise) ∙ length-map held entry_held

get_held : (held : List HeldValue) (q : ℕ) → SlotsRise (entries_held held)
    → tree.get (connections_held held) q ≡ tree.find nat_cmp q (entries_held held)
get_held held q rise = tree.get-from_sorted nat_cmp (entries_held held) q rise

get_at : (held : List HeldValue) (i : ℕ) (d : HeldValue) → SlotsRise (entries_held held) → i < length held
    → tree.get (connections_held held) (get_or held i d).slot ≡ Some (connection_held (get_or held i d))
get_at held i d rise lt = get_held held (get_or held i d).slot rise ∙ found held i d rise lt

pub get_found : (slot : ℕ) (held : List HeldValue) (i : ℕ) (d : HeldValue) → AreHeld held → IsAt held slot i
    → tree.get (connections_held held) slot ≡ Some (connection_held (get_or held i d))
get_found slot held i d are at = rw (← at.same d) (get_at held i d are.rise at.within)

-- The result of a binary search.
pub searched : (slot : ℕ) (held : List HeldValue) (r : Result ℕ ℕ) → SlotsRise (entries_held held) → IsSearchInRange r (length held)
    → IsBinarySearchResult (λ h. nat_cmp h.slot slot) held r → MatchResult r (IsAt held slot) (IsGapFor held slot)
searched slot held (Ok i) rise within is =
    let here : (get_or held i any_held).slot ≡ slot = ranked _ slot _ (sym (is any_held)) in
    record {
      within = within;
      same = λ d. ranked _ slot _ (sym (is d));
      some = rw (← here) (ap is_some (get_at held i any_held rise within));
    }
searched slot held (Err i) rise within is =
    let parted = is (λ a b d le lt. grind (
      arith,
      nat_tests,
      rising held a b d rise,
      λ (e : a ≡ b). ap (λ (k : ℕ). (get_or held k d).slot) e,
    )) in
    let lower = λ (k : ℕ) (d : HeldValue) (le : 0 ≤ k) (lt : k < i). ranked _ slot _ (sym (parted.0 k d le lt)) in
    let higher = λ (k : ℕ) (d : HeldValue) (le : i ≤ k) (lt : k < length held). ranked _ slot _ (sym (parted.1 k d le lt)) in
    record {
      within = within;
      parted = (lower, higher);
      none = get_held held slot rise
          ∙ none slot held (λ k d lt e. grind (arith, lower k d, higher k d));
    }

-- ---- changes

written_are : (held after : List HeldValue) (h : HeldValue) → AreHeld held
    → tree.put nat_cmp h.slot (connection_held h) (entries_held held) ≡ entries_held after → All IsHeld after → AreHeld after
written_are held after h are e each =
    record {
      rise = subst (λ (es : List (ℕ × Connection)). SlotsRise es) e
          (is_sorted-put nat_cmp nat_cmp_total h.slot (connection_held h) (entries_held held) are.rise);
      each = each;
    }

written : (held after : List HeldValue) (h : HeldValue) → AreHeld held
    → tree.put nat_cmp h.slot (connection_held h) (entries_held held) ≡ entries_held after → AreHeld after
    → connections_held after ≡ tree.insert (connections_held held) h.slot (connection_held h)
written held after h are e later = tree.same_entries_map _ _ (
    entries_of after later.rise ∙ sym e ∙ ap (λ (es : List (ℕ × Connection)). tree.put nat_cmp h.slot (connection_held h) es)
    (sym (entries_of held are.rise)) ∙ sym (tree.entries-insert nat_cmp_total (connections_held held) h.slot (connection_held h)))

put_new : (held : List HeldValue) (i : ℕ) (h : HeldValue) → i ≤ length held
    → IsPartitionPoint (λ x. x.slot < h.slot) (λ x. h.slot < x.slot) held i
    → tree.put nat_cmp h.slot (connection_held h) (entries_held held) ≡ entries_held (insert held i h)
put_new [] zero h within parted = refl
put_new [] (suc i) h within parted = absurd (omega arith)
put_new (x ∷ held) zero h within parted = grind (arith, nat_tests, parted.1 zero x (omega arith) (omega arith))
put_new (x ∷ held) (suc i) h within parted =
    let rest = put_new held i h (omega arith)
    (λ k d le lt. parted.0 (suc k) d (omega arith) (omega arith), λ k d le lt. parted.1 (suc k) d (omega arith) (omega arith)) in
    grind (arith, nat_tests, parted.0 zero x (omega arith) (omega arith), rest)

put_at : (held : List HeldValue) (i : ℕ) (h : HeldValue) → SlotsRise (entries_held held) → i < length held
    → HoldsAt (λ x. x.slot ≡ h.slot) held i → tree.put nat_cmp h.slot (connection_held h) (entries_held held) ≡ entries_held (set held i h)
put_at [] i h rise lt here = absurd (omega arith)
put_at (x ∷ held) zero h rise lt here = grind (arith, nat_tests, here x)
put_at (x ∷ held) (suc i) h rise lt here =
    let far : x.slot < (get_or held i x).slot = above x.slot held (parts _ _ rise).0 i x (omega arith) in
    grind (arith, nat_tests, here x, far, put_at held i h (behind x held rise) (omega arith) here)

kept : (slot : ℕ) (held : List HeldValue) → All (λ h. slot ≢ h.slot) held
    → where_key nat_cmp (λ q. not (eq_by_cmp nat_cmp q slot)) (entries_held held) ≡ entries_held held
kept slot [] others = refl
kept slot (x ∷ held) others = grind (
  arith,
  nat_tests,
  others zero x (omega arith),
  kept slot held (All-tail (λ h. slot ≢ h.slot) x held others),
)

cut_at : (slot : ℕ) (held : List HeldValue) (i : ℕ) → SlotsRise (entries_held held) → i < length held → HoldsAt (λ x. x.slot ≡ slot) held i
    → where_key nat_cmp (λ q. not (eq_by_cmp nat_cmp q slot)) (entries_held held) ≡ entries_held (remove held i)
cut_at slot [] i rise lt here = absurd (omega arith)
cut_at slot (x ∷ held) zero rise lt here =
    let rest = kept slot held (λ k d lt e. omega (arith, above x.slot held (parts _ _ rise).0 k d lt, here x)) in
    grind (arith, nat_tests, here x, rest)
cut_at slot (x ∷ held) (suc i) rise lt here =
    let far : x.slot < (get_or held i x).slot = above x.slot held (parts _ _ rise).0 i x (omega arith) in
    grind (arith, nat_tests, here x, far, cut_at slot held i (behind x held rise) (omega arith) here)

-- A slot opens.
pub opened_are : (held : List HeldValue) (i : ℕ) (h : HeldValue) → AreHeld held → IsGapFor held h.slot i → IsHeld h
    → AreHeld (insert held i h)
opened_are held i h are gap keeps = written_are held (insert held i h) h are (put_new held i h gap.within gap.parted)
    (All-append IsHeld (take i held) (h ∷ drop i held) (All-take IsHeld i held are.each)
    (All-cons IsHeld h (drop i held) keeps (All-drop IsHeld i held are.each)))

pub opened : (held : List HeldValue) (i : ℕ) (h : HeldValue) → AreHeld held → IsGapFor held h.slot i → IsHeld h
    → connections_held (insert held i h) ≡ tree.insert (connections_held held) h.slot (connection_held h)
opened held i h are gap keeps = search (rules, opened_are, put_new, written)

-- An open slot changes.
pub turned_are : (held : List HeldValue) (i : ℕ) (h : HeldValue) → AreHeld held → IsAt held h.slot i → IsHeld h → AreHeld (set held i h)
turned_are held i h are at keeps = written_are held (set held i h) h are (put_at held i h are.rise at.within at.same)
    (All-set IsHeld held i h keeps are.each)

pub turned : (held : List HeldValue) (i : ℕ) (h : HeldValue) → AreHeld held → IsAt held h.slot i → IsHeld h
    → connections_held (set held i h) ≡ tree.insert (connections_held held) h.slot (connection_held h)
turned held i h are at keeps = search (rules, put_at, turned_are, written)

-- An open slot is freed.
pub freed_are : (held : List HeldValue) (i : ℕ) → AreHeld held → i < length held → AreHeld (remove held i)
freed_are held i are lt =
    let slot = (get_or held i any_held).slot in
    let cut = cut_at slot held i are.rise lt (λ d. ap (λ (h : HeldValue). h.slot) (get_or_default held i d any_held lt)) in
    record {
      rise = subst (λ (es : List (ℕ × Connection)). SlotsRise es) cut
          (is_sorted-where_key nat_cmp (λ q. not (eq_by_cmp nat_cmp q slot)) (entries_held held) are.rise);
      each = All-append IsHeld (take i held) (drop (suc i) held) (All-take IsHeld i held are.each) (All-drop IsHeld (suc i) held are.each);
    }

pub freed : (slot : ℕ) (held : List HeldValue) (i : ℕ) → AreHeld held → IsAt held slot i
    → connections_held (remove held i) ≡ tree.remove (connections_held held) slot
freed slot held i are at = same _ _ (λ q.
    let others = λ (k : ℕ). not (eq_by_cmp nat_cmp k slot) in
    let cut = ap (λ (es : List (ℕ × Connection)). tree.find nat_cmp q es) (cut_at slot held i are.rise at.within at.same) in
    let left = find-where_key nat_cmp others q (λ k t. ap others (sym (nat_cmp-IsAntisymmetric q k t))) (entries_held held) in
    grind (
      arith,
      nat_tests,
      tree.gets,
      cut,
      left,
      get_held held q are.rise,
      get_held (remove held i) q (freed_are held i are at.within).rise,
    ))

-- Freeing a slot that is not open changes nothing.
pub freed_none : (slot : ℕ) (m : ConnectionMap) → tree.get m slot ≡ None → m ≡ tree.remove m slot
freed_none slot m none = same _ _ (λ q. grind (arith, nat_tests, tree.gets, none))

-- ---- copies

pub copied_are : (source : ConnectionMap) (held : List HeldValue) → entries_held held ≡ tree.entries source → All IsHeld held → AreHeld held
copied_are source held all each = record
    { rise = subst (λ (es : List (ℕ × Connection)). SlotsRise es) (sym all) (tree.entries_sorted source); each = each }

pub copied_same : (source : ConnectionMap) (held : List HeldValue) → entries_held held ≡ tree.entries source → All IsHeld held
    → connections_held held ≡ source
copied_same source held all each = tree.same_entries_map (connections_held held) source
    (entries_of held (copied_are source held all each).rise ∙ all)

-- ---- equality

abbrev bytes_kept : Stage → List ℕ
bytes_kept (stage.Waiting bytes) = bytes
bytes_kept other = []

-- The listed connection of a map entry.
abbrev response_by : ℕ × Connection → HeldValue
response_by e = record { slot = e.0; local = e.1.local; phase = phase_of_stage e.1.stage; bytes = bytes_kept e.1.stage }

response_stage : (p : Phase) (a : List ℕ) → IsKeptFor p a → (phase_of_stage (stage_held p a) ≡ p) × (bytes_kept (stage_held p a) ≡ a)
response_stage p a empty = search rules

response_all : (held : List HeldValue) → All IsHeld held → list_map response_by (entries_held held) ≡ held
response_all [] each = refl
response_all (x ∷ held) each =
    let first = response_stage x.phase x.bytes (All-head IsHeld x held each) in
    λ i. record { slot = x.slot; local = x.local; phase = first.0 i; bytes = first.1 i } ∷ response_all held (All-tail IsHeld x held each) i

-- A map of open connections has only one list.
pub same_held : (held other : List HeldValue) → AreHeld held → AreHeld other → connections_held held ≡ connections_held other → held ≡ other
same_held held other are be e =
    sym (response_all held are.each) ∙ ap (λ (es : List (ℕ × Connection)). list_map response_by es)
    (sym (entries_of held are.rise) ∙ ap tree.entries e ∙ entries_of other be.rise) ∙ response_all other be.each

pub are_none : AreHeld []
are_none = record { rise = tt; each = λ k d lt. absurd (omega arith) }

pub ruleset held_laws = (
  none_open,
  entries_of,
  len_held,
  are_none,
  copied_are,
  copied_same,
  append-nil,
  get_found,
  freed_none,
  opened_are,
  opened,
  turned_are,
  turned,
  freed_are,
  freed,
)
