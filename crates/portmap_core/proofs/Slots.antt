-- Slots as a finite map.
use Rattle.std.specs.{Cmp.{nat_cmp_is, nat_cmp_total}, FinMap.nat_cmp-IsAntisymmetric}
use Rattle.std.specs.{Ordering.{nat_cmp, eq_by_cmp, is_eq}, Prelude.{count_by, is_some, option_map}}
use Rattle.std.specs.declared.cmp.Ordering.TheVariants.{Equal}
use Rattle.std.proofs.Common.{◌≡◌, ◌≢◌, ℕ, suc, zero, ◌+◌, ◌<◌, cond, true, false, List, [], ◌∷◌, length, get_or}
use Rattle.std.proofs.{Common.{Option, Some, None, refl, sym, ap, ◌∙◌, arith}, lemmas.Bool.Decides.nat_tests}
use Rattle.std.specs.FinMap as map
use Rattle.slab.specs.Slab.{ContainsKey, Slab, Updates, entries_from, with_value}
use Rattle.slab.proofs.SlabLemmas.{Updates-with_value, length-entries_from}
use Rattle.portmap_core.specs.Connections.{ConnectionMap, at_stage, connections_of, ended_at, stopped_in}
use Rattle.portmap_core.specs.{declared.connection.Connection.Connection, declared.connection.Stage.TheVariants.Done}

pub same_key : (q : ℕ) → eq_by_cmp nat_cmp q q ≡ true
same_key q = ap is_eq (sym (nat_cmp_is q q Equal refl))

pub other_key : (q k : ℕ) → q ≢ k → eq_by_cmp nat_cmp q k ≡ false
other_key q k ne = grind (arith, nat_tests, ne)

-- No entry is at a slot below the first.
before : (j q : ℕ) (slots : List (Option Connection)) → q < j → map.find nat_cmp q (entries_from j slots) ≡ None
before j q [] lt = refl
before j q (None ∷ slots) lt = before (j + 1) q slots (omega arith)
before j q (Some connection ∷ slots) lt = grind (arith, nat_tests, before (j + 1) q slots (omega arith))

at_slot : (j k q : ℕ) (slots : List (Option Connection)) → q ≡ j + k → map.find nat_cmp q (entries_from j slots) ≡ get_or slots k None
at_slot j k q [] e = refl
at_slot j zero q (None ∷ slots) e = before (j + 1) q slots (omega arith)
at_slot j zero q (Some connection ∷ slots) e = grind (arith, nat_tests)
at_slot j (suc k) q (None ∷ slots) e = at_slot (j + 1) k q slots (omega arith)
at_slot j (suc k) q (Some connection ∷ slots) e = grind (arith, nat_tests, at_slot (j + 1) k q slots (omega arith))

pub get-connections : (slots : List (Option Connection)) (k : ℕ) → map.get (connections_of slots) k ≡ get_or slots k None
get-connections slots k = map.get-from_entries nat_cmp_total (entries_from 0 slots) k ∙ at_slot 0 k k slots (omega arith)

-- Two maps are equal if they agree at each key.
pub same : (m n : ConnectionMap) → ((q : ℕ) → map.get m q ≡ map.get n q) → m ≡ n
same m n h = map.same_map nat_cmp_total nat_cmp-IsAntisymmetric m n h

-- The values at a key after an insertion and a removal.
pub put_same : (m : ConnectionMap) (k q : ℕ) (connection : Connection) → q ≡ k → map.get (map.insert m k connection) q ≡ Some connection
put_same m k q connection e = grind (arith, nat_tests, map.get-insert nat_cmp_total m k connection q)

pub put_other : (m : ConnectionMap) (k q : ℕ) (connection : Connection) → q ≢ k → map.get (map.insert m k connection) q ≡ map.get m q
put_other m k q connection ne = grind (arith, nat_tests, map.get-insert nat_cmp_total m k connection q)

pub cut_same : (m : ConnectionMap) (k q : ℕ) → q ≡ k → map.get (map.remove m k) q ≡ None
cut_same m k q e = grind (arith, nat_tests, map.get-remove nat_cmp_total m k q)

pub cut_other : (m : ConnectionMap) (k q : ℕ) → q ≢ k → map.get (map.remove m k) q ≡ map.get m q
cut_other m k q ne = grind (arith, nat_tests, map.get-remove nat_cmp_total m k q)

-- Writing a slot of the slab inserts into the map. Freeing a slot removes from the map.
pub connections_put : (old new : Slab Connection) (k : ℕ) (connection : Connection) → Updates old new k (Some connection)
    → connections_of new.slots ≡ map.insert (connections_of old.slots) k connection
connections_put old new k connection updates =
    same _ _ (λ q. grind (arith, nat_tests, map.gets, get-connections, updates.changed, updates.others q))

pub connections_cut : (old new : Slab Connection) (k : ℕ) → Updates old new k None
    → connections_of new.slots ≡ map.remove (connections_of old.slots) k
connections_cut old new k updates = same _ _ (λ q. grind (arith, nat_tests, map.gets, get-connections, updates.changed, updates.others q))

-- A slot is written through a reference.
pub connections-with_value : (s : Slab Connection) (k : ℕ) (connection : Connection) → ContainsKey s k
    → connections_of (with_value s k connection).slots ≡ map.insert (connections_of s.slots) k connection
connections-with_value s k connection here = connections_put s _ k connection (Updates-with_value s k connection here)

-- The slots of the entries rise.
put_first : (j k : ℕ) (connection : Connection) (slots : List (Option Connection)) → j < k
    → map.put nat_cmp j connection (entries_from k slots) ≡ (j, connection) ∷ entries_from k slots
put_first j k connection [] lt = refl
put_first j k connection (None ∷ slots) lt = put_first j (k + 1) connection slots (omega arith)
put_first j k connection (Some other ∷ slots) lt = grind (arith, nat_tests)

pub none_open : ◌≡◌ {A = ConnectionMap} (map.from_sorted []) map.empty
none_open = let none : ConnectionMap = map.from_sorted [] in
    map.empty_of_len none (map.len-entries none ∙ ap length (map.entries-from_sorted nat_cmp [] tt))

-- These entries are the entries of the map.
pub entries-connections : (j : ℕ) (slots : List (Option Connection))
    → map.entries {R = nat_cmp} (map.from_entries (entries_from j slots)) ≡ entries_from j slots
entries-connections j [] = ap map.entries (sym none_open) ∙ map.entries-from_sorted nat_cmp [] tt
entries-connections j (None ∷ slots) = entries-connections (j + 1) slots
entries-connections j (Some connection ∷ slots) =
    map.entries-insert nat_cmp_total (map.from_entries (entries_from (j + 1) slots)) j connection
    ∙ ap (λ (es : List (ℕ × Connection)). map.put nat_cmp j connection es) (entries-connections (j + 1) slots)
    ∙ put_first j (j + 1) connection slots (omega arith)

-- The number of occupied slots.
pub len-connections : (slots : List (Option Connection)) → map.len (connections_of slots) ≡ count_by is_some slots
len-connections slots = map.len-entries (connections_of slots) ∙ ap length (entries-connections 0 slots) ∙ length-entries_from 0 slots

pub ruleset slot_laws = (get-connections, len-connections, entries-connections, connections_put, connections_cut, connections-with_value)

-- ---- maps of connections

-- Of two insertions at a key, the last counts.
pub insert_again : (m : ConnectionMap) (k : ℕ) (a b : Connection) → map.insert (map.insert m k a) k b ≡ map.insert m k b
insert_again m k a b = same _ _ (λ q. grind (arith, nat_tests, map.gets))

-- Inserting the value at a key again changes nothing.
pub insert_back : (m : ConnectionMap) (k : ℕ) (a : Connection) → map.get m k ≡ Some a → map.insert m k a ≡ m
insert_back m k a is = same _ _ (λ q. grind (arith, nat_tests, map.gets, is))

pub get_inserted : (m : ConnectionMap) (k : ℕ) (a : Connection) → map.get (map.insert m k a) k ≡ Some a
get_inserted m k a = put_same m k k a refl

got_ended : (owner q : ℕ) (m : ConnectionMap) (o : Option Connection) → map.get m owner ≡ o
    → map.get (ended_at owner o m) q ≡ cond (eq_by_cmp nat_cmp q owner) (option_map (λ connection. at_stage connection Done) o)
    (map.get m q)
got_ended owner q m None e = grind (arith, nat_tests, e)
got_ended owner q m (Some connection) e = map.get-insert nat_cmp_total m owner (at_stage connection Done) q

-- A slot stays open, with the same locality.
abbrev pub StaysOpen : ConnectionMap → ℕ → Connection → Type 0
StaysOpen connections slot connection = (found : Connection) × (map.get connections slot ≡ Some found) × (found.local ≡ connection.local)

pub ended_open : (connections : ConnectionMap) (owner slot : ℕ) (o : Option Connection) (connection : Connection)
    → map.get connections owner ≡ o → map.get connections slot ≡ Some connection → StaysOpen (ended_at owner o connections) slot connection
ended_open connections owner slot o connection e here =
    let got = got_ended owner slot connections o e in (
      cond (eq_by_cmp nat_cmp slot owner) (at_stage connection Done) connection,
      grind (arith, nat_tests, got, e, here),
      grind (arith, nat_tests),
    )

-- The value written at a slot before another slot is stopped does not matter.
pub stopped_alike : (m : ConnectionMap) (stopped : Option ℕ) (slot : ℕ) (a b c : Connection)
    → map.insert (stopped_in stopped (map.insert m slot a)) slot c ≡ map.insert (stopped_in stopped (map.insert m slot b)) slot c
stopped_alike m None slot a b c = same _ _ (λ q. grind (arith, nat_tests, map.gets))
stopped_alike m (Some owner) slot a b c =
    same _ _ (λ q. grind (
      arith,
      nat_tests,
      map.gets,
      got_ended owner q (map.insert m slot a) _ refl,
      got_ended owner q (map.insert m slot b) _ refl,
    ))
