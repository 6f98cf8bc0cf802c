-- The open connections, as a finite map from their slots.
use Rattle.std.specs.{FinMap.Entries.is_sorted, Ordering.nat_cmp, Prelude.{◌≡◌, ℕ, List, Option, Some, None, T}}
use Rattle.std.specs.FinMap as map
use Rattle.slab.specs.Slab.{entries_from}
use Rattle.portmap_core.specs.declared.connection.Connection.{Connection}
use Rattle.portmap_core.specs.declared.connection.Stage.{Stage, TheVariants.{Done, Holding}}

abbrev pub ConnectionMap : Type 0
ConnectionMap = map.FinMap nat_cmp Connection

-- The connections in a list of slots, which are numbered from 0.
abbrev pub connections_of : List (Option Connection) → ConnectionMap
connections_of slots = map.from_entries (entries_from 0 slots)

-- Each slot in the list is above the slot before it.
abbrev pub SlotsRise : List (ℕ × Connection) → Type 0
SlotsRise entries = T (is_sorted nat_cmp entries)

-- A slot is open, and its connection holds a name.
abbrev pub IsHolding : Option Connection → Type 0
IsHolding None = ⊥
IsHolding (Some connection) = connection.stage ≡ Holding

-- ---- changes

abbrev pub at_stage : Connection → Stage → Connection
at_stage connection stage = record { local = connection.local; stage = stage }

-- Ends the connection in a slot, if the slot is open.
abbrev pub ended_at : ℕ → Option Connection → ConnectionMap → ConnectionMap
ended_at slot None connections = connections
ended_at slot (Some connection) connections = map.insert connections slot (at_stage connection Done)

abbrev pub ended : ℕ → ConnectionMap → ConnectionMap
ended slot connections = ended_at slot (map.get connections slot) connections

-- Ends the connection whose name was stopped, if there is one.
abbrev pub stopped_in : Option ℕ → ConnectionMap → ConnectionMap
stopped_in None connections = connections
stopped_in (Some owner) connections = ended owner connections
