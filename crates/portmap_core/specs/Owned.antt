-- The invariant of every state that a run reaches: an active name belongs to exactly one open connection.
use Rattle.std.specs.Prelude.{◌≡◌, ℕ, ◌≤◌, Bool, true, false, Option, Some, None}
use Rattle.std.specs.FinMap as map
use Rattle.portmap_feed.specs.Stream.{More, first_request}
use Rattle.portmap_table.specs.Rows.{AreKept, owns_name}
use Rattle.portmap_core.specs.{Config.Configuration, State.State, declared.connection.Connection.Connection}
use Rattle.portmap_core.specs.declared.connection.Stage.{Stage, TheVariants.{Done, Holding, Waiting}}

-- A connection owns a name if and only if it holds one, and then it is local. A waiting connection has not sent a
-- complete request.
abbrev pub IsStageFor : Bool → Bool → Stage → Type 0
IsStageFor owns local (Waiting received) = (owns ≡ false) × (first_request received ≡ More)
IsStageFor owns local Holding = (owns ≡ true) × (local ≡ true)
IsStageFor owns local Done = owns ≡ false

abbrev pub IsSlotFor : Bool → Option Connection → Type 0
IsSlotFor owns None = owns ≡ false
IsSlotFor owns (Some connection) = IsStageFor owns connection.local connection.stage

-- The names keep their invariant, at most `conn_max` connections are open, and each slot that owns a name is an open
-- connection that holds it.
pub record IsOwned (cfg : Configuration) (s : State) : Type 0 where
  pub names : AreKept cfg.known_max s.names
  pub few : map.len s.connections ≤ cfg.conn_max
  pub slots : (slot : ℕ) → IsSlotFor (owns_name slot s.names) (map.get s.connections slot)
