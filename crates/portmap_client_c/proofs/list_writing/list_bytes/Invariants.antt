use Rattle.std.proofs.Common.{◌≡◌, take}
use Rattle.portmap_wire.specs.List.{names_reply}
use Rattle.portmap_client_c.proofs.list_writing.list_bytes.Given as goal

abbrev pub invariant-loop-line : goal.invariant-loop-line
invariant-loop-line l = l.out.items ≡ names_reply l.port (take l.line-index l.lines)
