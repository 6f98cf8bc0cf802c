use Rattle.std.proofs.Common.{ℕ, ◌≤◌, ◌<◌, length, slice_index}
use Rattle.portmap_wire.proofs.list_reading.digits_start.Given as goal

abbrev pub invariant-loop-start : goal.invariant-loop-start
invariant-loop-start l = record {
  within : l.start ≤ length l.text;
  digits : (k : ℕ) → l.start ≤ k → k < length l.text → (48 ≤ slice_index l.text k) × (slice_index l.text k ≤ 57);
}

abbrev pub decreases-loop-start : goal.decreases-loop-start
decreases-loop-start l = l.start
