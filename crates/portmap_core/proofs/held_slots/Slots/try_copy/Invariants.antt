use Rattle.std.proofs.Common.{◌≡◌, take}
use Rattle.portmap_core.proofs.held_slots.Slots.try_copy.Given as goal

abbrev pub invariant-loop-h : goal.invariant-loop-h
invariant-loop-h l = l.held.items ≡ take l.h-index l.h-items
