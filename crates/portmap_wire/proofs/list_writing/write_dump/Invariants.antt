use Rattle.std.proofs.Common.{◌≡◌, take}
use Rattle.portmap_wire.specs.List.{dump_reply}
use Rattle.portmap_wire.proofs.list_writing.write_dump.Given as goal

abbrev pub invariant-loop-line : goal.invariant-loop-line
invariant-loop-line l = l.reply ≡ dump_reply l.port (take l.line-index l.lines)
