use Rattle.std.proofs.Common.{◌-◌, ◌≡◌, ◌≤◌, ◌<◌, ℕ, Some, slice_get, length}
use Rattle.portmap_table.proofs.inserting.index_of.Given as goal

abbrev pub decreases-loop-front : goal.decreases-loop-front
decreases-loop-front l = l.back - l.front

-- `index` is between `front` and `back`.
abbrev pub invariant-loop-front : goal.invariant-loop-front
invariant-loop-front l = (l.back ≤ length l.indexes) × (l.front ≤ l.back)
    × ((i : ℕ) → slice_get l.indexes i ≡ Some l.index → (l.front ≤ i) × (i < l.back))
