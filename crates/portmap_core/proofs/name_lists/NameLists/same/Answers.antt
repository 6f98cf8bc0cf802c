use Rattle.std.proofs.{Common.rules, lemmas.Slice.Eq.slice_eq-Decides}
use Rattle.portmap_table.proofs.Comparing.{rows_decide}
use Rattle.portmap_core.proofs.name_lists.NameLists.same.Goals as goal

pub returns-then-eq : goal.returns-then-eq
returns-then-eq c = search (rules, rows_decide, slice_eq-Decides)

pub returns-else-eq : goal.returns-else-eq
returns-else-eq c = search (rules, rows_decide, slice_eq-Decides)
