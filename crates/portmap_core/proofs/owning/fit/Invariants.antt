use Rattle.std.proofs.Common.{ℕ, ◌<◌, get_or}
use Rattle.portmap_core.specs.{Fitting.IsHeldFor, Held.HeldValue}
use Rattle.portmap_core.proofs.owning.fit.Given as goal

abbrev pub invariant-loop-h : goal.invariant-loop-h
invariant-loop-h l = (k : ℕ) (d : HeldValue) → k < l.h-index → IsHeldFor l.table.names (get_or l.h-items k d)
