-- Names that become inactive, lookups of inactive names, and their next creations.
use Rattle.std.specs.{Cmp.Lexicographic.same_text, List.{AllByRecursion, IsDistinct, position_or_len}}
use Rattle.std.specs.Prelude.{filter, find, is_some, map as list_map, nat_le, not, option_map, position, remove, slice_get}
use Rattle.std.specs.Prelude.{◌==◌, ◌&&◌, ◌⊎◌}
use Rattle.std.proofs.Common.{◌≡◌, ◌≢◌, ℕ, zero, suc, ◌+◌, ◌<◌, ◌≤◌, Bool, true, false, cond, List, [], ◌∷◌, ◌++◌, length, drop}
use Rattle.std.proofs.Common.{Option, Some, None, refl, sym, ap, subst, ◌∙◌, arith, inl, inr, rules}
use Rattle.std.proofs.lemmas.{Bool.{and_parts, cases_Bool, cond_both, eq-eqb, false_from_ne_true, leb-true, or_parts}}
use Rattle.std.proofs.lemmas.{Bool.Decides.nat_tests, List.{length-append, length-drop}, List.Edits.length-remove}
use Rattle.std.proofs.lemmas.{List.Folds.{find-append, position_or_len_push}, List.Quantifiers.position-Some}
use Rattle.std.proofs.lemmas.{List.Sums.prefix_len-le-length, Option.{same_Some, slice_get_within}}
use Rattle.portmap_wire.specs.{Node.Node, Reply.port2_reply, declared.request.Request.TheVariants.{Alive, Port}}
use Rattle.portmap_table.specs.{Laws.row_of, Rows.{AreKept, Names, RetiredName, active_row, is_known, known_len, old_name, registered}}
use Rattle.portmap_table.specs.Rows.{remembered, retired_at, retired_last, retired_of, retired_row, same_name, slot_of, with_room}
use Rattle.portmap_table.specs.{Rows.{without_at, without_oldest}, declared.row.Row.Row}
use Rattle.portmap_table.proofs.Finding.{find-push_other, is_none, parts, position-find}
use Rattle.portmap_table.proofs.{First.{NonePass, no_index, none_found}, NameEntry.{had_name, has_name}}
use Rattle.portmap_table.proofs.NameLaws.{active_names_stay, last_creations_are_remembered, names_outlive_connections, new_active}
use Rattle.portmap_table.proofs.NameLaws.{others_stay_at_registration, others_stay_at_retirement, retired_names_stand_last}
use Rattle.portmap_core.specs.{Config.Configuration, Entry.{Closed, Entry, Faulted}}
use Rattle.portmap_core.specs.Laws.{AbsentNamesAreNotFound, EndsRetire, IsReplied, LeaversAreRemembered, NoneRegisters}
use Rattle.portmap_core.specs.Laws.{RestartsGetAnother, Retires, StopsRetire, is_registration, registrations}
use Rattle.portmap_core.specs.{Run.Run, Serving.stops, State.State, Step.{Effect, Step}, declared.event.Fate.TheVariants.Stay}
use Rattle.portmap_core.proofs.{LocalPeers.concluded, NameSteps.{at_passes, names_lead, none_stays}, Shown.answered}
use Rattle.portmap_core.proofs.Taken.{taken_creations_are_new}

-- ---- a slot's name retires

-- A property of all keys holds of the key of an element that is found.
key_found : {X K : Type 0} (P : K → Type 0) (key : X → K) (p : X → Bool) (xs : List X) (x : X) → AllByRecursion P (list_map key xs)
    → find p xs ≡ Some x → P (key x)
key_found P key p [] x all found = absurd cc
key_found P key p (y ∷ ys) x all found = elim (cases_Bool (p y)) [
  | inl passes ↦ subst (λ z. P (key z)) (same_Some y x (rw passes at found)) all.0
  | inr fails ↦ key_found P key p ys x all.1 (rw fails at found)
]

-- If all keys are distinct, an element that is found is found by its key too.
found_by_key : {X : Type 0} (key : X → ℕ) (p : X → Bool) (xs : List X) (x : X) → IsDistinct ◌==◌ (list_map key xs) → find p xs ≡ Some x
    → find (λ y. key y == key x) xs ≡ Some x
unfolding IsDistinct
found_by_key key p [] x distinct found = absurd cc
found_by_key key p (y ∷ ys) x distinct found = elim (cases_Bool (p y)) [
  | inl passes ↦ let same = same_Some y x (rw passes at found) in rw (ap key same, eq-eqb (key x) (key x) refl) (ap Some same)
  | inr fails ↦
      let later = rw fails at found in
      rw (key_found (λ k. (key y == k) ≡ false) key p ys x distinct.0 later) (found_by_key key p ys x distinct.1 later)
]

name_of_found : (name : List ℕ) (names : Names) (row : Row) → active_row name names ≡ Some row → row.reg.name ≡ name
name_of_found name names row found =
    let index = position-find (has_name name) names.active row found in
    same_text row.reg.name name (sym (at_passes (has_name name) names.active _ row index.0 index.1))

module _ (known_max : ℕ) (names : Names) (kept : AreKept known_max names) where
  slot_retires : (name : List ℕ) (row : Row) → active_row name names ≡ Some row → Retires name names (retired_of row.slot names)
  slot_retires name row found =
      let owned : row_of row.slot names ≡ Some row = found_by_key slot_of (has_name name) names.active row kept.owners found in
      let called = name_of_found name names row found in
      let left = names_outlive_connections known_max names row.slot row kept owned in
      record {
        gone = rw called at (is_none (active_row row.reg.name (retired_of row.slot names)) left.0);
        others = λ other differs. (others_stay_at_retirement names row.slot row other owned (rw (sym called) at differs)).0;
      }

ends_at : (cfg : Configuration) (s s' : State) (slot : ℕ) (e : Entry) → (e ≡ Closed slot) ⊎ (e ≡ Faulted slot) → Step cfg s e s'
    → s'.names ≡ retired_of slot s.names
ends_at cfg s s' slot e (inl is) step =
    ap (λ (x : State). x.names) (subst (λ (x : Entry). Step cfg s x s') is step).moves.after
ends_at cfg s s' slot e (inr is) step =
    ap (λ (x : State). x.names) (subst (λ (x : Entry). Step cfg s x s') is step).moves.after

pub ends_retire : EndsRetire
ends_retire cfg s s' name row e owned step ends found =
    subst (λ (n : Names). Retires name s.names n) (sym (ends_at cfg s s' row.slot e ends step))
    (slot_retires cfg.known_max s.names owned.names name row found)

pub leavers_are_remembered : LeaversAreRemembered
leavers_are_remembered cfg s s' name row e owned step ends found =
    let owner : row_of row.slot s.names ≡ Some row = found_by_key slot_of (has_name name) s.names.active row owned.names.owners found in
    let called = name_of_found name s.names row found in
    let left = last_creations_are_remembered cfg.known_max s.names row.slot row owned.names owner in
    subst (λ (n : Names). remembered name n ≡ Some row.creation) (sym (ends_at cfg s s' row.slot e ends step)) (rw called at left.1)

pub stops_retire : StopsRetire
stops_retire cfg s s' name row reply fate owned relaxed t found =
    let o = concluded t (stops s.names (Some row.slot)) (λ creation. rw (relaxed, found) refl) in (
      ap (λ (x : Effect). x.reply) o,
      ap (λ (x : Effect). x.fate) o,
      subst (λ (n : Names). Retires name s.names n) (sym (ap (λ (x : Effect). x.state.names) o))
          (slot_retires cfg.known_max s.names owned.names name row found),
    )

-- ---- an inactive name stays inactive until it is registered

abbrev Absent : List ℕ → Names → Type 0
Absent name names = active_row name names ≡ None

other_registers : (known_max : ℕ) (names : Names) (row : Row) {name : List ℕ} → row.reg.name ≢ name → Absent name names
    → Absent name (registered row.reg row.creation row.slot (with_room known_max row.reg.name names))
other_registers known_max names row {name} other absent =
    let given = row.reg.name in
    let differs : same_name given name ≡ false = false_from_ne_true (same_name given name) (λ e. other (same_text given name (sym e))) in
    find-push_other (has_name name) (with_room known_max given names).active row differs
    ∙ rw (active_names_stay known_max names given) absent

module _ (name : List ℕ) (cfg : Configuration) where
  -- A transition keeps the name inactive, unless it registers the name.
  step_spares : (s s' : State) (e : Entry) → Step cfg s e s'
      → ((g : Node) (reply : List ℕ) → IsReplied cfg s (Alive g) reply Stay s' → g.name ≢ name) → Absent name s.names → Absent name s'.names
  step_spares s s' e step none absent =
      names_lead (Absent name) absent e step (λ slot _. none_stays name s.names slot absent)
      (λ r. other_registers cfg.known_max s.names (record { reg = r.node; creation = r.creation; slot = r.replied.slot })
      (none r.node r.reply r.replied) absent)

  run_spares : (es : List Entry) (s s' : State) (run : Run cfg s es s') → Absent name s.names → NoneRegisters name cfg es s s' run
      → Absent name s'.names
  run_spares [] s s' run absent none = rw run absent
  run_spares (e ∷ es) s s' run absent none = run_spares es run.0 s' run.2 (step_spares s run.0 e run.1 none.0 absent) none.1

pub absent_names_are_not_found : AbsentNamesAreNotFound
absent_names_are_not_found cfg es s last s' name asker connection body answer run absent none c spells =
    (answered c (Port name) spells).1
    ∙ ap (λ (o : Option Row). port2_reply (option_map (λ (x : Row). x.reg) o)) (run_spares name cfg es s last run absent none)

-- ---- a creation stays remembered

module _ {X : Type 0} (p : X → Bool) where
  position-remove : (xs : List X) (at : ℕ) → position_or_len p xs ≤ position_or_len p (remove xs at) + 1
  position-remove [] at = omega arith
  position-remove (x ∷ xs) zero = grind (arith, nat_tests)
  position-remove (x ∷ xs) (suc at) = let rest = position-remove xs at in grind (arith, nat_tests, rest)

  position-last : (xs : List X) (x : X) → NonePass p xs → length xs ≤ position_or_len p (xs ++ x ∷ [])
  position-last xs x none = grind (arith, nat_tests, no_index p xs none, position_or_len_push p xs x)

  first_fails : (xs : List X) → 0 < position_or_len p xs → find p (drop 1 xs) ≡ find p xs
  first_fails [] some = refl
  first_fails (x ∷ xs) some = grind (arith, nat_tests, some)

fewer : {X : Type 0} (b : Bool) (x : X) (xs : List X) → length xs ≤ length (cond b (x ∷ xs) xs)
fewer b x xs = cond_both b (x ∷ xs) xs (λ ys. length xs ≤ length ys) (λ _. omega arith) (λ _. omega arith)

counted : (e : Entry) (es : List Entry) → is_registration e ≡ true → registrations (e ∷ es) ≡ registrations es + 1
counted e es is = rw is (omega arith)

module _ (cfg : Configuration) (name : List ℕ) (creation : ℕ) where
  abbrev older : List RetiredName → ℕ
  older = position_or_len (had_name name)

  -- The creation is remembered. The active names, the name itself, those that were retired after it and `n` registrations are at
  -- most as many as may be known.
  record Keeps (n : ℕ) (names : Names) : Type 0 where
    found : remembered name names ≡ Some creation
    room : known_len names + n ≤ cfg.known_max + older names.retired

  module _ (n : ℕ) (names : Names) where
    retired_last_keeps : (at : ℕ) (o : Option Row) → slice_get names.active at ≡ o → Keeps n names → Keeps n (retired_last at o names)
    retired_last_keeps at None e kept = kept
    retired_last_keeps at (Some row) e kept =
        let fewer = length-remove names.active at (slice_get_within names.active at row e) in
        let more = length-append names.retired (old_name row ∷ []) in
        let first = position_or_len_push (had_name name) names.retired (old_name row) in
        record { found = search (rules, find-append, kept.found); room = grind (arith, nat_tests, kept.room, fewer, more, first) }

    retired_at_keeps : (o : Option ℕ) → Keeps n names → Keeps n (retired_at o names)
    retired_at_keeps None kept = kept
    retired_at_keeps (Some at) kept = retired_last_keeps at (slice_get names.active at) refl kept

    room_without : (given : List ℕ) (o : Option ℕ) → position (had_name given) names.retired ≡ o
        → length (without_at o names.retired) + older names.retired ≤ length names.retired + older (without_at o names.retired)
    room_without given None e = omega arith
    room_without given (Some at) e =
        let lt = (position-Some (had_name given) names.retired at (record { name = []; port = 0; creation = 0 }) e).0 in
        omega (arith, length-remove names.retired at lt, position-remove (had_name name) names.retired at)

    -- Another name registers.
    registered_keeps : (row : Row) → Absent name (registered row.reg row.creation row.slot names) → Keeps (n + 1) names
        → Keeps n (registered row.reg row.creation row.slot names)
    registered_keeps row absent kept =
        let fails = none_found (has_name name) (names.active ++ row ∷ []) (ap is_some absent) in
        let other = (parts (λ (x : Row). has_name name x ≡ false) names.active (row ∷ []) fails).1.0 in
        let known = (others_stay_at_registration names row.reg row.creation row.slot name other).1 in
        let more = length-append names.active (row ∷ []) in
        let left = room_without row.reg.name (position (had_name row.reg.name) names.retired) refl in
        record { found = rw known kept.found; room = omega (arith, kept.room, more, left) }

    room_keeps : (given : List ℕ) → Keeps (n + 1) names → Keeps (n + 1) (with_room cfg.known_max given names)
    room_keeps given kept =
        cond_both (nat_le cfg.known_max (known_len names) && not (is_known given names)) (without_oldest names) names (Keeps (n + 1))
        (λ full. let many = leb-true cfg.known_max (known_len names) (and_parts _ _ full).0 in
        let known = first_fails (had_name name) names.retired (omega (arith, many, kept.room)) in
        let within = prefix_len-le-length (λ (old : RetiredName). not (had_name name old)) names.retired in
        let left = position-remove (had_name name) names.retired 0 in
        let fewer = length-drop 1 names.retired in
        record { found = rw known kept.found; room = omega (arith, many, kept.room, within, left, fewer) }) (λ _. kept)

  step_keeps : (es : List Entry) (s s' : State) (e : Entry) → Step cfg s e s' → Absent name s'.names
      → Keeps (registrations (e ∷ es)) s.names → Keeps (registrations es) s'.names
  step_keeps es s s' e step absent kept =
      let later : Keeps (registrations es) s.names =
      record { found = kept.found; room = omega (arith, kept.room, fewer (is_registration e) e (filter is_registration es)) } in
      names_lead (λ (names : Names). Absent name names → Keeps (registrations es) names) (λ _. later) e step
      (λ slot _ _. retired_at_keeps (registrations es) s.names _ later)
      (λ r absent. registered_keeps (registrations es) (with_room cfg.known_max r.node.name s.names)
      (record { reg = r.node; creation = r.creation; slot = r.replied.slot }) absent
      (room_keeps (registrations es) s.names r.node.name (rw (counted e es r.counts) at kept))) absent

  run_keeps : (es : List Entry) (s s' : State) (run : Run cfg s es s') → Absent name s.names → NoneRegisters name cfg es s s' run
      → Keeps (registrations es) s.names → remembered name s'.names ≡ Some creation
  run_keeps [] s s' run absent none kept = rw run kept.found
  run_keeps (e ∷ es) s s' run absent none kept =
      let later = step_spares name cfg s run.0 e run.1 none.0 absent in
      run_keeps es run.0 s' run.2 later none.1 (step_keeps es s run.0 e run.1 later kept)

-- No name retires after a name that has just retired.
retires_last : (known_max : ℕ) (names : Names) (name : List ℕ) (row : Row) → AreKept known_max names → active_row name names ≡ Some row
    → let olds = (retired_of row.slot names).retired in length olds ≤ position_or_len (had_name name) olds + 1
retires_last known_max names name row kept found =
    let owner = found_by_key slot_of (has_name name) names.active row kept.owners found in
    let new = new_active kept (position_or_len (has_name name) names.active) row (position-find (has_name name) names.active row found).1 in
    let unknown : is_some (retired_row row.reg.name names) ≡ false = search (rules, or_parts) in
    let none = none_found (had_name name) names.retired (rw (name_of_found name names row found) at unknown) in
    let more = length-append names.retired (old_name row ∷ []) in
    let last = position-last (had_name name) names.retired (old_name row) none in
    rw (retired_names_stand_last names row.slot row owner) (omega (arith, more, last))

pub restarts_get_another : RestartsGetAnother
restarts_get_another cfg es s first last s' name row other e next owned step ends found run none few again active =
    let absent = (ends_retire cfg s first name row e owned step ends found).gone in
    let newest = retires_last cfg.known_max s.names name row owned.names found in
    let kept : Keeps cfg name row.creation (registrations es) first.names = record {
      found = leavers_are_remembered cfg s first name row e owned step ends found;
      room = rw (ends_at cfg s first row.slot e ends step) (omega (arith, newest, rw (ends_at cfg s first row.slot e ends step) at few));
    } in
    taken_creations_are_new cfg last s' next name other row.creation again (run_spares name cfg es first last run absent none) active
    (run_keeps cfg name row.creation es first last run absent none kept)
