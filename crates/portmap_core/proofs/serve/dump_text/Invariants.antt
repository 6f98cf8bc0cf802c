use Rattle.std.specs.{List.flat_map, Prelude.map as list_map}
use Rattle.std.proofs.Common.{◌≡◌, ◌++◌, take}
use Rattle.portmap_wire.specs.List.{dump_line, dump_reply}
use Rattle.portmap_core.specs.Serving.{active_line, retired_line}
use Rattle.portmap_core.proofs.serve.dump_text.Given as goal

abbrev pub invariant-loop-i : goal.invariant-loop-i
invariant-loop-i l = l.reply ≡ dump_reply l.port (list_map active_line (take l.i l.table.names.active))

abbrev pub invariant-loop-k : goal.invariant-loop-k
invariant-loop-k l = l.reply ≡ dump_reply l.port (list_map active_line l.table.names.active)
    ++ flat_map dump_line (list_map retired_line (take l.k l.table.names.retired))
