use Rattle.std.proofs.Common.{ap, sym, ◌∙◌}
use Rattle.portmap_table.specs.{Rows.owns_name, Table.TableState}
use Rattle.portmap_table.proofs.IndexProofs.{owns_indexed}
use Rattle.portmap_table.proofs.table.Table.holds.Goals as goal

pub returns : goal.returns
returns c = c.contains_key.ensures ∙ sym (owns_indexed c.self.invariant.0 c.args.slot)
    ∙ ap (λ (t : TableState). owns_name c.args.slot t.names) c.self.view_is
