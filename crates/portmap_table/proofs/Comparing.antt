-- Rows and retired names are equal if and only if their values are.
use Rattle.std.specs.{Bool.Decides, Prelude.◌&&◌}
use Rattle.std.proofs.Common.{◌≡◌, rules}
use Rattle.portmap_table.specs.declared.row.Row.{Row}
use Rattle.portmap_table.specs.contracts.row.RowPartialEq.TheImpl as row_eq

pub rows_decide : (a b : Row) → Decides (row_eq.ghosts.eq a b) (a ≡ b)
rows_decide a b = search rules
