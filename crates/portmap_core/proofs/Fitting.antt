-- The agreement of names and open connections, by slots, by lists and in number.
use Rattle.std.specs.{List.{IsDistinct, list_any}, Ordering.nat_cmp, Prelude.{All, IsSome, is_some, map as list_map, ◌==◌}}
use Rattle.std.proofs.Common.{◌≡◌, ℕ, ◌<◌, ◌≤◌, Bool, true, false, List, [], ◌∷◌, length, get_or, Option, Some, refl, sym, ap}
use Rattle.std.proofs.Common.{subst, ◌∙◌, arith, eq-eqb, eqb-true, inl, inr, IfSome, rules}
use Rattle.std.proofs.{lemmas.Bool.cases_eq, lemmas.Cmp.nat_eq_equiv}
use Rattle.std.proofs.{lemmas.List.Elements.{All-head, All-tail}, lemmas.List.Folds.{Any-from_list_any, list_any_at}}
use Rattle.std.specs.FinMap as map
use Rattle.portmap_wire.specs.declared.request.Request.{Request}
use Rattle.portmap_table.specs.{Rows.{Names, owns_name, slot_of}, declared.row.Row.Row}
use Rattle.portmap_table.proofs.{Finding.keys_pass_not, First.any_none, Owners.{has_slot, owns}}
use Rattle.portmap_core.specs.{Config.Configuration, Connections.ConnectionMap, Fitting.IsHeldFor}
use Rattle.portmap_core.specs.{Held.{AreHeld, HeldValue, connection_held, entries_held}, Laws.IsReplied}
use Rattle.portmap_core.specs.{Owned.{IsOwned, IsSlotFor}, State.State}
use Rattle.portmap_core.specs.{declared.connection.Connection.Connection, declared.event.Fate.Fate}
use Rattle.portmap_core.proofs.{Counts.cut_len, HeldLaws.found, Owned.{AreSlotsFor, waiting_free}, Slots.{cut_other, other_key}}

-- A property of all listed connections holds of the connection found at a slot.
found_has : (P : ℕ → Connection → Type 0) (q : ℕ) (held : List HeldValue) → All (λ h. P h.slot (connection_held h)) held
    → IfSome (map.find nat_cmp q (entries_held held)) (P q)
found_has P q [] each = tt
found_has P q (x ∷ held) each = elim (cases_eq q x.slot) [
  | inl is ↦ search (rules, All-head)
  | inr ne ↦ rw (other_key q x.slot ne) (found_has P q held (All-tail (λ h. P h.slot (connection_held h)) x held each))
]

slot_by : (owns : Bool) (o : Option Connection) → IfSome o (λ connection. IsSlotFor owns (Some connection)) → (owns ≡ true → IsSome o)
    → IsSlotFor owns o
slot_by owns o has some = search rules

is_open : (owns : Bool) (o : Option Connection) → owns ≡ true → IsSlotFor owns o → IsSome o
is_open owns o e has = search rules

abbrev AreOpen : ConnectionMap → List Row → Type 0
AreOpen connections rows = All (λ row. IsSome (map.get connections row.slot)) rows

-- Names and connections agree at every slot if and only if they agree for each listed connection and all owners are
-- open.
module _ (names : Names) (connections : ConnectionMap) (held : List HeldValue) (entries : entries_held held ≡ map.entries connections)
    (are : AreHeld held) where
  found_at : (slot : ℕ) → map.get connections slot ≡ map.find nat_cmp slot (entries_held held)
  found_at slot = map.get-entries connections slot ∙ ap (λ (es : List (ℕ × Connection)). map.find nat_cmp slot es) (sym entries)

  pub together : All (IsHeldFor names) held → AreOpen connections names.active → AreSlotsFor names connections
  together each owners slot =
      let here = found_has (λ q connection. IsSlotFor (owns_name q names) (Some connection)) slot held each in
      slot_by (owns_name slot names) (map.get connections slot) (rw (found_at slot) here) (λ t.
      let row = Any-from_list_any (has_slot slot) names.active (sym (owns slot names) ∙ t) in
      subst (λ (q : ℕ). IsSome (map.get connections q)) (ap (λ (x : Row). x.slot) row.3 ∙ eqb-true _ _ row.4) (owners row.0 row.1 row.2))

  pub each_by : AreSlotsFor names connections → All (IsHeldFor names) held
  each_by slots k d lt =
      let h = get_or held k d in
      subst (λ (o : Option Connection). IsSlotFor (owns_name h.slot names) o) (found_at h.slot ∙ found held k d are.rise lt) (slots h.slot)

pub owners_by : (names : Names) (connections : ConnectionMap) → AreSlotsFor names connections → AreOpen connections names.active
owners_by names connections slots k d lt =
    let row = get_or names.active k d in
    is_open (owns_name row.slot names) (map.get connections row.slot)
    (owns row.slot names ∙ list_any_at (has_slot row.slot) names.active k d lt (eq-eqb row.slot row.slot refl)) (slots row.slot)

-- ---- the number of active names

-- Open slots, no two of which are equal, are at most as many as the open connections.
open_most : (rows : List Row) (m : ConnectionMap) → IsDistinct ◌==◌ (list_map slot_of rows)
    → ((q : ℕ) → list_any (has_slot q) rows ≡ true → IsSome (map.get m q)) → length rows ≤ map.len m
unfolding IsDistinct
open_most [] m distinct each = omega arith
open_most (row ∷ rows) m distinct each =
    let alone = any_none (has_slot row.slot) rows (keys_pass_not nat_eq_equiv slot_of row.slot rows distinct.0) in
    let fewer = cut_len m row.slot _ refl (each row.slot (rw (eq-eqb row.slot row.slot refl) refl)) in
    let rest = open_most rows (map.remove m row.slot) distinct.1 (λ q has.
    rw (cut_other m row.slot q (λ e. let both : false ≡ true = sym alone ∙ ap (λ k. list_any (has_slot k) rows) (sym e) ∙ has in cc))
    (each q (search rules))) in
    omega (arith, fewer, rest)

-- A waiting connection owns no name, and each active name belongs to another connection.
pub few_are_active : {cfg : Configuration} {s s' : State} {request : Request} {reply : List ℕ} {fate : Fate}
    → IsReplied cfg s request reply fate s' → IsOwned cfg s → length s.names.active < map.len s.connections
few_are_active {cfg} {s} t owned =
    let here = t.completes.is_open in
    let free = waiting_free (owns_name t.slot s.names) (map.get s.connections t.slot) here t.completes.waits (owned.slots t.slot) in
    let fewer = cut_len s.connections t.slot (map.get s.connections t.slot) refl (ap is_some here) in
    let most = open_most s.names.active (map.remove s.connections t.slot) owned.names.owners (λ q has.
    let owner : owns_name q s.names ≡ true = owns q s.names ∙ has in
    rw (cut_other s.connections t.slot q (λ e. let both : false ≡ true = sym free ∙ ap (λ k. owns_name k s.names) (sym e) ∙ owner in cc))
    (is_open (owns_name q s.names) (map.get s.connections q) owner (owned.slots q))) in
    omega (arith, fewer, most)
