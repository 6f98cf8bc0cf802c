use Rattle.std.proofs.Common.{◌≡◌, ◌+◌, ◌≤◌, List, length}
use Rattle.portmap_wire.specs.{ListReading.ListsTo, declared.list.Line.Line}
use Rattle.portmap_wire.proofs.list_reading.first_strange.Given as goal

-- The loop passed `count` lines, and `count` is at most the number of bytes passed.
abbrev pub invariant-loop-rest : goal.invariant-loop-rest
invariant-loop-rest l = record {
  met : (lines : List Line) × ListsTo l.fn.text lines l.rest × (length lines ≡ l.count);
  few : l.count + length l.rest ≤ length l.fn.text;
}

abbrev pub decreases-loop-rest : goal.decreases-loop-rest
decreases-loop-rest l = length l.rest
