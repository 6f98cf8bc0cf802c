use Rattle.std.proofs.Common.{◌≡◌, [], take}
use Rattle.portmap_table.specs.{Rows.AreKept, Table.{new_table, with_names}}
use Rattle.portmap_table.proofs.table.Table.of.Given as goal

abbrev pub invariant-loop-old : goal.invariant-loop-old
invariant-loop-old l = (l.table ≡ with_names (new_table l.known_max l.first)
    (record { active = []; retired = take l.old-index l.retired }))
    × AreKept l.known_max (record { active = []; retired = take l.old-index l.retired })

abbrev pub invariant-loop-row : goal.invariant-loop-row
invariant-loop-row l = (l.table ≡ with_names (new_table l.known_max l.first)
    (record { active = take l.row-index l.active; retired = l.retired }))
    × AreKept l.known_max (record { active = take l.row-index l.active; retired = l.retired })
