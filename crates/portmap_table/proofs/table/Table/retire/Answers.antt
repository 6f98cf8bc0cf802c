use Rattle.std.specs.Prelude.{nat_eq}
use Rattle.std.proofs.{Common.{◌≡◌, ◌≢◌, ℕ, Some, is_some, ap, sym, ◌∙◌, arith, rules}, lemmas.Bool.ne_eqb}
use Rattle.indexmap.specs.IndexMap.{get}
use Rattle.portmap_table.specs.{Indexes.{IsIndex, names_at}, Rows.{AreKept, Names, owns_name, retired_of}}
use Rattle.portmap_table.specs.Table.{TableState, with_names}
use Rattle.portmap_table.proofs.{IndexProofs.{owns_indexed, retires_names, retires_places, stays_whole}, NameEntry.kept_retired}
use Rattle.portmap_table.proofs.table.Table.retire.Goals as goal

pub returns-in_default-clause-found : goal.returns-in_default-clause-found
returns-in_default-clause-found c =
    sym (owns_indexed c.self.invariant.0 c.args.slot ∙ ap is_some (sym c.swap_remove.ensures.value ∙ c.in_default.is))
    ∙ ap (λ (t : TableState). owns_name c.args.slot t.names) c.self.view_is

pub returns-in_default-clause-retired : goal.returns-in_default-clause-retired
returns-in_default-clause-retired c = search (rules, stays_whole)

owned : (c : goal.After-push_reserved) → get nat_eq c.self.inside.owners c.args.slot ≡ Some c.in-Some.index
owned c = sym c.swap_remove.ensures.value ∙ c.in-Some.is

others : (c : goal.After-push_reserved) (q : ℕ) → q ≢ c.args.slot → get nat_eq c.swap_remove.new.self q ≡ get nat_eq c.self.inside.owners q
others c q other = c.swap_remove.ensures.updates.2 q (ne_eqb c.args.slot q (λ same. other (sym same)))

abbrev old_names : (c : goal.After-push_reserved) → Names
old_names c = names_at c.self.inside.entries c.self.inside.active.items c.self.inside.retired.items

indexed : (c : goal.After-push_reserved)
    → IsIndex c.retire.new.self c.take_out.new.indexes.items c.push_reserved.new.self.items (get nat_eq c.swap_remove.new.self)
indexed c =
    let out = c.take_out.ensures.items in
    rw (out.2, c.push_reserved.ensures.items)
    (retires_places (get nat_eq c.swap_remove.new.self) c.args.slot c.in-Some.index out.0 c.self.invariant.0
    (owned c) c.retire.ensures.puts c.retire.ensures.len out.1 c.swap_remove.ensures.updates.1 (others c))

named : (c : goal.After-push_reserved) → names_at c.retire.new.self c.take_out.new.indexes.items c.push_reserved.new.self.items
    ≡ retired_of c.args.slot (old_names c)
named c =
    let out = c.take_out.ensures.items in
    (λ i. names_at c.retire.new.self (out.2 i) (c.push_reserved.ensures.items i))
    ∙ retires_names (get nat_eq c.swap_remove.new.self) c.args.slot c.in-Some.index out.0 c.self.invariant.0
    (owned c) c.retire.ensures.puts c.retire.ensures.len out.1 c.swap_remove.ensures.updates.1 (others c)

kept : (c : goal.After-push_reserved) → AreKept c.self.inside.known_max
    (names_at c.retire.new.self c.take_out.new.indexes.items c.push_reserved.new.self.items)
kept c = rw (named c) (kept_retired c.self.inside.known_max (old_names c) _ c.self.invariant.2)

pub invariant_of-self-2 : goal.invariant_of-self-2
invariant_of-self-2 c = (
  indexed c,
  omega
      (arith, c.self.invariant.1, c.take_out.ensures.len, c.push_reserved.ensures.len, c.push_reserved.ensures.capacity),
  kept c,
  c.self.invariant.3,
  c.self.invariant.4,
)

pub returns-clause-found : goal.returns-clause-found
returns-clause-found c = sym (owns_indexed c.self.invariant.0 c.args.slot ∙ ap is_some (owned c))
    ∙ ap (λ (t : TableState). owns_name c.args.slot t.names) c.self.view_is

pub returns-clause-retired : goal.returns-clause-retired
returns-clause-retired c = (λ i. record { names = named c i; known_max = c.self.inside.known_max; counter = c.self.inside.counter })
    ∙ ap (λ (t : TableState). with_names t (retired_of c.args.slot t.names)) c.self.view_is

pub returns-clause-kept : goal.returns-clause-kept
returns-clause-kept c = kept c
