use Rattle.std.specs.Io.KnownBytes.{Keeps, Appends}
use Rattle.std.proofs.Common.{length, ◌-◌, ◌≡◌, ◌+◌, ◌≤◌, take}
use Rattle.portmap_link.specs.Limit.{left_in, puts_most}
use Rattle.portmap_link.proofs.PutsOn.{HasPut}
use Rattle.portmap_link.proofs.putting.send_all.Given as goal

-- The first `count` bytes are written, and `left` remains of the limit.
abbrev pub invariant-loop-count : goal.invariant-loop-count
invariant-loop-count g l = record {
  within : l.count ≤ length l.bytes;
  written : Appends (g.W.Device.held l.initial.output) (g.W.Device.held l.output) (take l.count l.bytes);
  put : HasPut l.fn.limit (length l.bytes) (g.W.Device.puts l.initial.output) (g.W.Device.puts l.output) l.count l.laters l.left;
  few : l.laters + left_in l.left ≤ left_in l.fn.limit;
  calls : length (g.W.Device.puts l.output) + puts_most l.left (length l.bytes - l.count)
      ≤ length (g.W.Device.puts l.initial.output) + puts_most l.fn.limit (length l.bytes);
  broken : g.W.Device.broken l.output ≡ g.W.Device.broken l.initial.output;
  left : Keeps (g.W.Device.left l.initial.output) (g.W.Device.left l.output);
  pulls : g.W.Device.pulls l.output ≡ g.W.Device.pulls l.initial.output;
}

abbrev pub decreases-loop-count : goal.decreases-loop-count
decreases-loop-count g l = (length l.bytes - l.count) + left_in l.left
