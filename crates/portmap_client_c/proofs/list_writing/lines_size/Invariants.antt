use Rattle.std.specs.List.{flat_map}
use Rattle.std.proofs.Common.{◌≡◌, ◌*◌, ◌≤◌, length, take}
use Rattle.portmap_wire.specs.List.{names_line}
use Rattle.portmap_client_c.proofs.list_writing.lines_size.Given as goal

abbrev pub invariant-loop-line : goal.invariant-loop-line
invariant-loop-line l = record {
  small : l.size ≤ 1040 * l.line-index;
  sum : l.size ≡ length (flat_map names_line (take l.line-index l.lines));
}
