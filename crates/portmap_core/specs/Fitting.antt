-- Open connections and the names that they own.
use Rattle.portmap_table.specs.Rows.{Names, owns_name}
use Rattle.portmap_core.specs.{Held.{HeldValue, stage_held}, Owned.IsStageFor}

-- `h` satisfies the invariant of a connection, given the names.
abbrev pub IsHeldFor : Names → HeldValue → Type 0
IsHeldFor names h = IsStageFor (owns_name h.slot names) h.local (stage_held h.phase h.bytes)
