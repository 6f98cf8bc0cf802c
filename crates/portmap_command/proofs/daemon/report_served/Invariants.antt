use Rattle.std.proofs.Common.{◌+◌, drop}
use Rattle.portmap_link.specs.Adapters.{writing_inner}
use Rattle.portmap_command.specs.Daemon.{served_lines}
use Rattle.portmap_command.proofs.Pieces.{IsLeft}
use Rattle.portmap_command.proofs.daemon.report_served.Given as goal

abbrev pub invariant-loop-index : goal.invariant-loop-index
invariant-loop-index g l =
    IsLeft (served_lines 1 l.served) (served_lines (l.index + 1) (drop l.index l.served))
    (g.E.Write.contents (writing_inner l.initial.errors)) (g.E.Write.contents (writing_inner l.errors))
