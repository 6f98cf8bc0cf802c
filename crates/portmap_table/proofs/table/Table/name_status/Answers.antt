use Rattle.std.specs.Prelude.{option_map}
use Rattle.std.proofs.Common.{ap, sym, ◌∙◌, rules}
use Rattle.portmap_table.specs.{Rows.{retired_name, name_status}, Table.TableState}
use Rattle.portmap_table.proofs.IndexProofs.{how_kept, stands_kept, stands_new, stands_once}
use Rattle.portmap_table.proofs.table.Table.name_status.Goals as goal

pub returns-in-None : goal.returns-in-None
returns-in-None c = search (rules, stands_new)

pub returns-in-None-2 : goal.returns-in-None-2
returns-in-None-2 c = search (rules, stands_new)

pub returns-in-None-retired : goal.returns-in-None-retired
returns-in-None-retired c =
    let once = stands_once c.args.name.now c.self.inside.entries c.index.result c.in-Some.index c.in-Some.is c.index.ensures.only in
    sym (stands_kept c.self.invariant.0 c.args.name.now c.self.inside.known_max c.in-Some.index c.in-Some.ensures.found once
    ∙ ap how_kept (sym c.retired.ensures ∙ ap (option_map retired_name) c.in-None-retired.is))
    ∙ ap (λ (t : TableState). name_status t.known_max c.args.name.now t.names) c.self.view_is

pub returns-in-Some-retired : goal.returns-in-Some-retired
returns-in-Some-retired c =
    let once = stands_once c.args.name.now c.self.inside.entries c.index.result c.in-Some.index c.in-Some.is c.index.ensures.only in
    sym (stands_kept c.self.invariant.0 c.args.name.now c.self.inside.known_max c.in-Some.index c.in-Some.ensures.found once
    ∙ ap how_kept (sym c.retired.ensures ∙ ap (option_map retired_name) c.in-Some-retired.is))
    ∙ ap (λ (t : TableState). name_status t.known_max c.args.name.now t.names) c.self.view_is
