-- The open connections of a plain state, as a list by rising slot.
use Rattle.std.specs.{List.HoldsAt, List.Sorted.IsPartitionPoint}
use Rattle.std.specs.Prelude.{◌≡◌, ℕ, ◌<◌, ◌≤◌, Bool, List, [], All, IsSome, None, length, map as list_map}
use Rattle.std.specs.FinMap as map
use Rattle.portmap_core.specs.{Connections.{ConnectionMap, SlotsRise}, declared.connection.Connection.Connection}
use Rattle.portmap_core.specs.declared.connection.Phase.{Phase, TheVariants.{Done, Holding, Waiting}}
use Rattle.portmap_core.specs.declared.connection.Stage.{Stage}
use Rattle.portmap_core.specs.declared.connection.Stage.TheVariants as stage

-- An open connection with its slot.
pub record HeldValue : Type 0 where
  pub slot : ℕ
  pub local : Bool
  pub phase : Phase
  pub bytes : List ℕ

-- The stage of a phase, with the bytes received.
abbrev pub stage_held : Phase → List ℕ → Stage
stage_held Waiting bytes = stage.Waiting bytes
stage_held Holding bytes = stage.Holding
stage_held Done bytes = stage.Done

abbrev pub connection_held : HeldValue → Connection
connection_held h = record { local = h.local; stage = stage_held h.phase h.bytes }

abbrev pub entry_held : HeldValue → ℕ × Connection
entry_held h = (h.slot, connection_held h)

abbrev pub entries_held : List HeldValue → List (ℕ × Connection)
entries_held held = list_map entry_held held

-- The map of the open connections in a list.
abbrev pub connections_held : List HeldValue → ConnectionMap
connections_held held = map.from_sorted (entries_held held)

-- Only a waiting connection has bytes.
abbrev pub IsKeptFor : Phase → List ℕ → Type 0
IsKeptFor Waiting bytes = Unit {0}
IsKeptFor Holding bytes = bytes ≡ []
IsKeptFor Done bytes = bytes ≡ []

abbrev pub IsHeld : HeldValue → Type 0
IsHeld h = IsKeptFor h.phase h.bytes

-- The slots in the list rise, and only waiting connections have bytes.
pub record AreHeld (held : List HeldValue) : Type 0 where
  pub rise : SlotsRise (entries_held held)
  pub each : All IsHeld held

-- `slot` is open and is at index `i` of the list.
pub record IsAt (held : List HeldValue) (slot i : ℕ) : Type 0 where
  pub within : i < length held
  pub same : HoldsAt (λ h. h.slot ≡ slot) held i
  pub some : IsSome (map.get (connections_held held) slot)

-- `slot` is not open, and belongs at index `i` of the list.
pub record IsGapFor (held : List HeldValue) (slot i : ℕ) : Type 0 where
  pub within : i ≤ length held
  pub parted : IsPartitionPoint (λ h. h.slot < slot) (λ h. slot < h.slot) held i
  pub none : map.get (connections_held held) slot ≡ None
