use Rattle.std.specs.Prelude.{nat_eq}
use Rattle.std.proofs.Common.{◌≡◌, ◌≢◌, ℕ, List, [], ◌∷◌, ◌++◌, false, ap, sym, ◌∙◌, arith, rules}
use Rattle.indexmap.specs.IndexMap.{get}
use Rattle.portmap_table.specs.Indexes.{TakesIndex, names_at}
use Rattle.portmap_table.specs.Rows.{AreKept, Names, is_active, is_full_for, owns_name, registered, with_room}
use Rattle.portmap_table.specs.Table.{TableState}
use Rattle.portmap_table.proofs.{Finding.is_none, IndexProofs.{inactive_there, owns_indexed, settled_names, settled_places}}
use Rattle.portmap_table.proofs.NameEntry.{kept_enters}
use Rattle.portmap_table.proofs.table.Table.enter.Goals as goal

pub settle-requires-clause-name : goal.settle-requires-clause-name
settle-requires-clause-name c = search (rules, inactive_there)

abbrev old_names : (c : goal.In-Ok) → Names
old_names c = names_at c.self.inside.entries c.self.inside.active.items c.self.inside.retired.items

inactive : (c : goal.In-Ok) → is_active c.args.row.reg.name (old_names c) ≡ false
inactive c = ap (λ (t : TableState). is_active c.args.row.reg.name t.names) c.self.view_is ∙ c.requires.name

free : (c : goal.In-Ok) → owns_name c.args.row.slot (old_names c) ≡ false
free c = ap (λ (t : TableState). owns_name c.args.row.slot t.names) c.self.view_is ∙ c.requires.slot

settles : (c : goal.In-Ok)
    → TakesIndex c.self.inside.known_max c.args.row c.self.inside.entries c.settle.new.entries c.self.inside.retired.items
    c.settle.new.retired.items c.in_ok-index.index
settles c = rw (← c.reserve.ensures.items) c.in_ok-index.ensures.ok

pushed : (c : goal.In-Ok) → c.push_reserved.new.self.items ≡ c.self.inside.active.items ++ c.in_ok-index.index ∷ []
pushed c = c.push_reserved.ensures.items ∙ ap (λ (active : List ℕ). active ++ c.in_ok-index.index ∷ []) c.reserve-2.ensures.items

others : (c : goal.In-Ok) (q : ℕ) → q ≢ c.args.row.slot → get nat_eq c.insert.new.self q ≡ get nat_eq c.self.inside.owners q
others c q other = search rules

named : (c : goal.In-Ok) → names_at c.settle.new.entries c.push_reserved.new.self.items c.settle.new.retired.items
    ≡ registered c.args.row.reg c.args.row.creation c.args.row.slot (with_room c.self.inside.known_max c.args.row.reg.name (old_names c))
named c = rw (pushed c) (settled_names c.self.invariant.0 (settles c) (inactive c))

kept : (c : goal.In-Ok) → AreKept c.self.inside.known_max
    (names_at c.settle.new.entries c.push_reserved.new.self.items c.settle.new.retired.items)
kept c =
    rw (named c)
    (kept_enters (record { kept = c.self.invariant.2; inactive = inactive c; free = free c; range = c.requires.creation })
    (ap (λ (t : TableState). is_full_for t.known_max c.args.row.reg.name t.names) c.self.view_is ∙ c.requires.room))

pub invariant_of-self-2 : goal.invariant_of-self-2
invariant_of-self-2 c = (
  rw (pushed c)
      (settled_places c.self.invariant.0 (settles c) (inactive c) (get nat_eq c.insert.new.self)
      (is_none (get nat_eq c.self.inside.owners c.args.row.slot)
      (sym (owns_indexed c.self.invariant.0 c.args.row.slot) ∙ free c)) c.in-Ok.ensures.updates.1 (others c)),
  omega (
    arith,
    c.in_ok-reserve.ensures.ok,
    c.reserve.ensures.len,
    c.reserve-2.ensures.len,
    c.push_reserved.ensures.len,
    c.settle.ensures.few,
    c.settle.ensures.room,
  ),
  kept c,
  c.self.invariant.3,
  c.self.invariant.4,
)

pub returns-clause-ok : goal.returns-clause-ok
returns-clause-ok c = search (rules, named)

pub returns-clause-kept : goal.returns-clause-kept
returns-clause-kept c = kept c
