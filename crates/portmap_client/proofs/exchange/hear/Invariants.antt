use Rattle.std.specs.Io.KnownBytes.{Keeps}
use Rattle.std.proofs.Common.{◌-◌, ◌≡◌, ◌+◌, ◌≤◌, length}
use Rattle.portmap_link.specs.Asking.{GoesOn, IsAskedAgain}
use Rattle.portmap_client.specs.{Exchange.HasRead, Laters.laters}
use Rattle.portmap_client.specs.declared.exchange.TheConstants.{LATERS_MOST, LIST_MOST}
use Rattle.portmap_client.proofs.exchange.hear.Given as goal

-- These bytes were read, and none after the reply. `laters` counts the `Later` results.
abbrev pub invariant-loop-laters : goal.invariant-loop-laters
invariant-loop-laters g l = record {
  few : l.laters ≤ LATERS_MOST;
  has_read : HasRead l.awaited (g.S.Device.left l.fn.stream) (g.S.Device.left l.stream) l.read.items;
  on : GoesOn IsAskedAgain (g.S.Device.pulls l.fn.stream) (g.S.Device.pulls l.stream);
  waited : l.met + laters (g.S.Device.pulls l.stream) (g.S.Device.puts l.stream)
      ≡ laters (g.S.Device.pulls l.fn.stream) (g.S.Device.puts l.fn.stream) + l.laters;
  held : Keeps (g.S.Device.held l.fn.stream) (g.S.Device.held l.stream);
}

abbrev pub decreases-loop-laters : goal.decreases-loop-laters
decreases-loop-laters g l = LIST_MOST + 1 - length l.read.items + (LATERS_MOST - l.laters)
