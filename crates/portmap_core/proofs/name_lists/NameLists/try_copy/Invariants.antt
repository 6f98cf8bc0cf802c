use Rattle.std.proofs.Common.{◌≡◌, take}
use Rattle.portmap_core.proofs.name_lists.NameLists.try_copy.Given as goal

abbrev pub invariant-loop-row : goal.invariant-loop-row
invariant-loop-row l = l.active.items ≡ take l.row-index l.self.active

abbrev pub invariant-loop-old : goal.invariant-loop-old
invariant-loop-old l = l.retired.items ≡ take l.old-index l.self.retired
