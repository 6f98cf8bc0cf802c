-- A registration that succeeds, and how long it lasts.
use Rattle.std.specs.Prelude.{find, is_some, length, nat_le, not, ◌&&◌, ◌⊎◌}
use Rattle.std.proofs.Common.{◌≡◌, ◌<◌, ℕ, Bool, true, false, List, [], ◌∷◌, ◌++◌, Some, refl, sym, ap, subst, ◌∙◌, inl, inr}
use Rattle.std.proofs.{Common.{arith, rules}, lemmas.{Bool.{cond-false, cond_both}, List.Elements.{All-head, All-tail}}}
use Rattle.std.proofs.lemmas.{Bool.Decides.nat_tests, List.Folds.find-append, Option.same_Some}
use Rattle.portmap_wire.specs.{Node.Node, Reply.alive_reply, declared.request.Request.TheVariants.Alive}
use Rattle.portmap_table.specs.Rows.{Names, active_row, is_active, is_full_for, is_known, registered, slot_of, with_room}
use Rattle.portmap_table.specs.declared.row.Row.{Row}
use Rattle.portmap_table.proofs.{NameEntry.has_name, NameLaws.{active_names_stay, registered_names_are_active}}
use Rattle.portmap_core.specs.{Config.Configuration, Entry.Entry}
use Rattle.portmap_core.specs.Laws.{FreeNamesHaveRoom, FreeNamesRegister, IsRegistered, IsReplied, MayEnd, NamesStay, NoneEnds}
use Rattle.portmap_core.specs.{Laws.{RegisteredAreAlone, RegisteredAreFound, RegisteredAreListed}, Run.Run}
use Rattle.portmap_core.specs.Serving.{Served, alive_served, registers, replied}
use Rattle.portmap_core.specs.{State.State, Step.{Effect, Step, outcome_of}, declared.event.Fate.{Fate, TheVariants.{Close, Stay}}}
use Rattle.portmap_core.proofs.{Fitting.few_are_active, LocalPeers.{active_names_are_taken, served_at}, NameSteps.{names_lead, row_stays}}
use Rattle.portmap_core.proofs.Shown.{active_names_are_found, active_names_are_listed}

-- ---- an active name stays active

-- The first match is still found after elements are appended.
find_more : {X : Type 0} (p : X → Bool) (xs ys : List X) (x : X) → find p xs ≡ Some x → find p (xs ++ ys) ≡ Some x
find_more p xs ys x found = rw (find-append p xs ys, found) refl

module _ (cfg : Configuration) (name : List ℕ) (row : Row) where
  step_stays : (s s' : State) (e : Entry) → Step cfg s e s' → (MayEnd row.slot e → ⊥) → active_row name s.names ≡ Some row
      → active_row name s'.names ≡ Some row
  step_stays s s' e step none found =
      names_lead (λ (names : Names). active_row name names ≡ Some row) found e step
      (λ slot ends. row_stays name (Some row) s.names found slot (λ y is same.
      none (subst (λ (q : ℕ). MayEnd q e) (same ∙ ap slot_of (sym (same_Some row y is))) ends)))
      (λ r. find_more (has_name name) (with_room cfg.known_max r.node.name s.names).active _ row
      (rw (active_names_stay cfg.known_max s.names r.node.name) found))

pub names_stay : NamesStay
names_stay cfg [] s s' name row run found none = rw run found
names_stay cfg (e ∷ es) s s' name row run found none =
    names_stay cfg es run.0 s' name row run.2
    (step_stays cfg name row s run.0 e run.1 (All-head (λ e. MayEnd row.slot e → ⊥) e es none) found)
    (All-tail (λ e. MayEnd row.slot e → ⊥) e es none)

-- ---- a registration that succeeds

-- The registered name is active.
becomes_active : (known_max : ℕ) (names : Names) (slot : ℕ) (g : Node) (creation : ℕ) → is_active g.name names ≡ false
    → active_row g.name (registered g creation slot (with_room known_max g.name names))
    ≡ Some (record { reg = g; creation = creation; slot = slot })
becomes_active known_max names slot g creation new =
    registered_names_are_active (with_room known_max g.name names) g creation slot
    (rw (active_names_stay known_max names g.name) new)

-- A free name registers.
registers_so : {cfg : Configuration} {s s' : State} {g : Node} {reply : List ℕ} {fate : Fate} (t : IsReplied cfg s (Alive g) reply fate s')
    → is_active g.name s.names ≡ false → is_full_for cfg.known_max g.name s.names ≡ false
    → IsRegistered s g t.slot reply fate s'
registers_so {cfg} {s} {s'} {g} {reply} {fate} t new room =
    let (creation, legal, is) = served_at t in
    let so : alive_served cfg s.names t.slot g creation ≡ registers cfg.known_max s.names t.slot g creation =
    cond-false (is_active g.name s.names) _ _ new ∙ cond-false (is_full_for cfg.known_max g.name s.names) _ _ room in
    let o = is ∙ ap (outcome_of s t.slot t.connection) so in (
      creation,
      legal (ap (λ (x : Served). x.stage) so),
      ap (λ (x : Effect). x.reply) o,
      ap (λ (x : Effect). x.fate) o,
      ap (λ (x : Effect). active_row g.name x.state.names) o ∙ becomes_active cfg.known_max s.names t.slot g creation new,
    )

-- A registration with fate `Stay` has succeeded.
module _ (cfg : Configuration) (names : Names) (slot : ℕ) (g : Node) (creation : ℕ) where
  abbrev Takes : Served → Type 0
  Takes o = o.fate ≡ Stay → active_row g.name o.names ≡ Some (record { reg = g; creation = creation; slot = slot })

  alive_takes : Takes (alive_served cfg names slot g creation)
  alive_takes =
      cond_both (is_active g.name names) (replied names (alive_reply g.high 1 0)) _ Takes (λ _ e. let no : Close ≡ Stay = e in cc) (λ new.
      cond_both (is_full_for cfg.known_max g.name names) (replied names (alive_reply g.high 2 0))
      (registers cfg.known_max names slot g creation) Takes (λ _ e. let no : Close ≡ Stay = e in cc)
      (λ _ _. becomes_active cfg.known_max names slot g creation new))

took : {cfg : Configuration} {s s' : State} {g : Node} {reply : List ℕ} (t : IsReplied cfg s (Alive g) reply Stay s')
    → (creation : ℕ) × (active_row g.name s'.names ≡ Some (record { reg = g; creation = creation; slot = t.slot }))
took {cfg} {s} {s'} {g} {reply} t =
    let (creation, legal, is) = served_at t in (
      creation,
      ap (λ (x : Effect). active_row g.name x.state.names) is
          ∙ alive_takes cfg s.names t.slot g creation (sym (ap (λ (x : Effect). x.fate) is)),
    )

-- ---- the laws

has_room : (most active : ℕ) (known : Bool) → (known ≡ true) ⊎ (active < most) → (nat_le most active && not known) ≡ false
has_room most active known (inl e) = search rules
has_room most active known (inr lt) = grind (arith, nat_tests)

pub free_names_register : FreeNamesRegister
free_names_register cfg s s' g reply fate t free room =
    registers_so t (ap is_some free) (has_room cfg.known_max (length s.names.active) (is_known g.name s.names) room)

pub free_names_have_room : FreeNamesHaveRoom
free_names_have_room cfg s s' g reply fate t free owned few =
    let room = few_are_active t owned in
    free_names_register cfg s s' g reply fate t free (inr (omega arith))

-- The registered name stays active.
stays_active : {cfg : Configuration} {s first : State} {g : Node} {reply : List ℕ} (t : IsReplied cfg s (Alive g) reply Stay first)
    (es : List Entry) (last : State) → Run cfg first es last → NoneEnds t.slot es
    → active_row g.name last.names ≡ Some (record { reg = g; creation = (took t).0; slot = t.slot })
stays_active {cfg} {s} {first} {g} t es last run none = names_stay cfg es first last g.name _ run (took t).1 none

pub registered_are_found : RegisteredAreFound
registered_are_found cfg es s first last s' g reply t asker connection body answer run none c spells =
    active_names_are_found cfg last s' asker connection body answer g.name _ c spells (stays_active t es last run none)

pub registered_are_listed : RegisteredAreListed
registered_are_listed cfg es s first last s' g reply t asker connection body answer run none c spells =
    active_names_are_listed cfg last s' asker connection body answer g.name _ c spells (stays_active t es last run none)

pub registered_are_alone : RegisteredAreAlone
registered_are_alone cfg es s first last s' g other reply answer fate t run none again is =
    active_names_are_taken cfg last s' other _ answer fate again
    (ap (λ (n : List ℕ). active_row n last.names) is ∙ stays_active t es last run none)
