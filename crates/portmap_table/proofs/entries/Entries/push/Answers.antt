use Rattle.std.proofs.Common.{List, sym, ap, subst, ◌∙◌}
use Rattle.portmap_table.specs.Indexes.{IsNew}
use Rattle.portmap_table.proofs.entries.Entries.push.Goals as goal

pub insert-requires-clause-new : goal.insert-requires-clause-new
insert-requires-clause-new c = subst (λ (name : List _). IsNew name c.args.self.now)
    (sym (c.in_ok-name.ensures.same ∙ ap (λ (row : _). row.reg.name) c.row.view_is)) c.requires
