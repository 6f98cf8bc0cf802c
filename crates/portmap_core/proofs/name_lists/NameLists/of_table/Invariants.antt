use Rattle.std.proofs.Common.{◌≡◌, take}
use Rattle.portmap_core.proofs.name_lists.NameLists.of_table.Given as goal

abbrev pub invariant-loop-i : goal.invariant-loop-i
invariant-loop-i l = l.active.items ≡ take l.i l.table.names.active

abbrev pub invariant-loop-k : goal.invariant-loop-k
invariant-loop-k l = l.retired.items ≡ take l.k l.table.names.retired
