use Rattle.std.proofs.Common.{arith, rules}
use Rattle.portmap_table.proofs.Finding.{take_read}
use Rattle.portmap_core.proofs.Lines.{not_past}
use Rattle.portmap_core.proofs.name_lists.NameLists.of_table.Goals as goal

pub loop-i-preserved : goal.loop-i-preserved
loop-i-preserved c = grind (arith, take_read)

pub unreachable-requires-in_default-retired_at : goal.unreachable-requires-in_default-retired_at
unreachable-requires-in_default-retired_at c = search (rules, not_past)

pub loop-k-preserved : goal.loop-k-preserved
loop-k-preserved c = grind (arith, take_read)
