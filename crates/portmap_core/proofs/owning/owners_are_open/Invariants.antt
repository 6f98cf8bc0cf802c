use Rattle.std.specs.Prelude.{IsSome}
use Rattle.std.proofs.Common.{ℕ, ◌<◌, get_or}
use Rattle.std.specs.FinMap as map
use Rattle.portmap_table.specs.declared.row.Row.{Row}
use Rattle.portmap_core.proofs.owning.owners_are_open.Given as goal

abbrev pub invariant-loop-i : goal.invariant-loop-i
invariant-loop-i l = (k : ℕ) (d : Row) → k < l.i → IsSome (map.get l.connections (get_or l.table.names.active k d).slot)
