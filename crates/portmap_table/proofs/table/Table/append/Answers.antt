use Rattle.std.specs.Prelude.{nat_eq}
use Rattle.std.proofs.{Common.{◌≡◌, [], ◌∷◌, ◌++◌, ap, ◌∙◌, arith, rules}, lemmas.Grind.common_steps}
use Rattle.indexmap.specs.IndexMap.{get}
use Rattle.portmap_table.specs.{Indexes.{IsIndex, names_at}, Rows.{AreKept, Names, and_retired}}
use Rattle.portmap_table.specs.Table.{TableState, with_names}
use Rattle.portmap_table.proofs.{IndexProofs.{appended_names, appended_places, unknown_there}, NameLaws.kept_appended}
use Rattle.portmap_table.proofs.table.Table.append.Goals as goal

pub append-requires : goal.append-requires
append-requires c = search (rules, unknown_there)

abbrev old_names : (c : goal.After-push_reserved) → Names
old_names c = names_at c.self.inside.entries c.self.inside.active.items c.self.inside.retired.items

pushed : (c : goal.After-push_reserved) → c.push_reserved.new.self.items ≡ c.self.inside.retired.items ++ c.len-index.result ∷ []
pushed c = c.push_reserved.ensures.items ∙ ap (λ (items : _). items ++ c.len-index.result ∷ []) c.reserve.ensures.items

indexed : (c : goal.After-push_reserved)
    → IsIndex c.append.new.self c.self.inside.active.items c.push_reserved.new.self.items (get nat_eq c.self.inside.owners)
indexed c = rw (pushed c, c.in_ok-append.ensures.ok, c.len-index.ensures.len) (appended_places c.self.invariant.0 c.args.old.now)

named : (c : goal.After-push_reserved) → names_at c.append.new.self c.self.inside.active.items c.push_reserved.new.self.items
    ≡ and_retired (old_names c) c.args.old.now
named c = rw (pushed c, c.in_ok-append.ensures.ok, c.len-index.ensures.len) (appended_names c.self.invariant.0 c.args.old.now)

kept : (c : goal.After-push_reserved) → AreKept c.self.inside.known_max
    (names_at c.append.new.self c.self.inside.active.items c.push_reserved.new.self.items)
kept c = grind (arith, common_steps, kept_appended, named)

pub invariant_of-self-2 : goal.invariant_of-self-2
invariant_of-self-2 c = (
  indexed c,
  omega
      (arith, c.in_ok-reserve.ensures.ok, c.push_reserved.ensures.len, c.push_reserved.ensures.capacity, c.reserve.ensures.len),
  kept c,
  c.self.invariant.3,
  c.self.invariant.4,
)

pub returns-clause-ok : goal.returns-clause-ok
returns-clause-ok c = (λ i. record { names = named c i; known_max = c.self.inside.known_max; counter = c.self.inside.counter })
    ∙ ap (λ (t : TableState). with_names t (and_retired t.names c.args.old.now)) c.self.view_is

pub returns-clause-kept : goal.returns-clause-kept
returns-clause-kept c = kept c
