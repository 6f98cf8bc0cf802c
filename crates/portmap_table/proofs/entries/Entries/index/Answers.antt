use Rattle.std.specs.Prelude.{position}
use Rattle.std.proofs.Common.{◌≡◌, ℕ, List, map, Option, Some, None, IfSome, ap, ◌∙◌, rules}
use Rattle.portmap_table.specs.{Indexes.{Entry, StandsAs}, Rows.same_name}
use Rattle.portmap_table.proofs.Indexes.{key_of, place_read, read_place, stands_as}
use Rattle.portmap_table.proofs.entries.Entries.index.Goals as goal

where_is : (c : goal.After-get_index_of) → c.get_index_of.result ≡ position (same_name c.args.name.now) (map key_of c.args.self.now)
where_is c = c.get_index_of.ensures.index
    ∙ ap (λ (entries : List Entry). position (same_name c.args.name.now) (map key_of entries)) c.self.view_is

pub returns-clause-found : goal.returns-clause-found
returns-clause-found c = by c.get_index_of.result (where_is c)
  where
    by : (result : Option ℕ) → result ≡ position (same_name c.args.name.now) (map key_of c.args.self.now)
        → IfSome result (λ index. StandsAs c.args.name.now c.args.self.now index)
    by None e = tt
    by (Some index) e = search (rules, place_read, stands_as)

pub returns-clause-only : goal.returns-clause-only
returns-clause-only c index kept e = search (rules, read_place)
