-- A name that becomes active gets another creation than the creation remembered for it.
use Rattle.std.specs.Prelude.{find}
use Rattle.std.proofs.Common.{◌≡◌, ◌≢◌, ℕ, List, Some, None, sym, ◌∙◌, inl, inr, rules}
use Rattle.std.proofs.lemmas.Bool.{cases_Bool}
use Rattle.portmap_wire.specs.Node.{Node}
use Rattle.portmap_table.specs.{Creation.IsLegalCreation, Rows.{Names, active_row, registered, remembered, retired_of, same_name}}
use Rattle.portmap_table.specs.{Rows.with_room, declared.row.Row.Row}
use Rattle.portmap_table.proofs.{Finding.{find-push, find-push_other}, NameEntry.has_name}
use Rattle.portmap_core.specs.Laws.{TakenCreationsAreNew}
use Rattle.portmap_core.proofs.NameSteps.{names_lead, none_stays}

-- Each name that becomes active from `names` to `after` gets another creation than was remembered for it.
abbrev TakesNew : Names → Names → Type 0
TakesNew names after = (name : List ℕ) (row : Row) (last : ℕ) → active_row name names ≡ None → active_row name after ≡ Some row
    → remembered name names ≡ Some last → row.creation ≢ last

none_new : (names after : Names) → ((name : List ℕ) → active_row name names ≡ None → active_row name after ≡ None) → TakesNew names after
none_new names after still name row last none some old = λ e. let both : None ≡ Some row = sym (still name none) ∙ some in cc

takes : (known_max : ℕ) (names : Names) (slot : ℕ) (g : Node) (creation : ℕ) → IsLegalCreation g.high (remembered g.name names) creation
    → TakesNew names (registered g creation slot (with_room known_max g.name names))
takes known_max names slot g creation legal name row last none some old =
    let active : List Row = (with_room known_max g.name names).active in
    let new : Row = record { reg = g; creation = creation; slot = slot } in
    let before : find (has_name name) active ≡ None = search rules in
    elim (cases_Bool (same_name g.name name)) [
      | inl same ↦ search (rules, find-push)
      | inr other ↦ λ e. let both : None ≡ Some row = sym before ∙ sym (find-push_other (has_name name) active new other) ∙ some in cc
    ]

pub taken_creations_are_new : TakenCreationsAreNew
taken_creations_are_new cfg s s' e name row last step =
    names_lead (TakesNew s.names) (none_new s.names s.names (λ name none. none)) e step
    (λ slot _. none_new s.names (retired_of slot s.names) (λ name. none_stays name s.names slot))
    (λ r. takes cfg.known_max s.names r.replied.slot r.node r.creation r.legal) name row last
