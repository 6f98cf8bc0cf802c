use Rattle.std.specs.Prelude.{All}
use Rattle.std.proofs.Common.{◌≡◌, ◌++◌}
use Rattle.std.specs.FinMap as tree
use Rattle.portmap_core.specs.Held.{IsHeld, entries_held}
use Rattle.portmap_core.proofs.held_slots.Slots.copy_of.Given as goal

-- The copied connections and the connections left are all connections.
abbrev pub invariant-loop-slot : goal.invariant-loop-slot
invariant-loop-slot l = record {
  all : entries_held l.held.items ++ l.slot-iterator ≡ tree.entries l.source;
  each : All IsHeld l.held.items;
}
