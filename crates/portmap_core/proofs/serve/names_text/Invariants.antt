use Rattle.std.specs.Prelude.{map as list_map}
use Rattle.std.proofs.Common.{◌≡◌, take}
use Rattle.portmap_wire.specs.List.{names_reply}
use Rattle.portmap_core.specs.Serving.{names_line_of}
use Rattle.portmap_core.proofs.serve.names_text.Given as goal

abbrev pub invariant-loop-i : goal.invariant-loop-i
invariant-loop-i l = l.reply ≡ names_reply l.port (list_map names_line_of (take l.i l.table.names.active))
