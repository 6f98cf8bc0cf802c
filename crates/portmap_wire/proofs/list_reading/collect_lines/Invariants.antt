use Rattle.std.proofs.Common.{length}
use Rattle.portmap_wire.specs.ListReading.{ListsTo}
use Rattle.portmap_wire.proofs.list_reading.collect_lines.Given as goal

abbrev pub invariant-loop-rest : goal.invariant-loop-rest
invariant-loop-rest l = ListsTo l.fn.text l.lines.items l.rest

abbrev pub decreases-loop-rest : goal.decreases-loop-rest
decreases-loop-rest l = length l.rest
