use Rattle.std.proofs.Common.{rules}
use Rattle.portmap_table.proofs.IndexProofs.{found_active, no_active}
use Rattle.portmap_table.proofs.table.Table.find.Goals as goal

pub returns-in_err-index : goal.returns-in_err-index
returns-in_err-index c = search (rules, no_active)

pub returns : goal.returns
returns c = search (rules, found_active)
