-- The state of the port mapper's machine.
use Rattle.std.specs.Coded.{Coded, code_by, coded×, coded_list, coded_ℕ, coded_bool}
use Rattle.std.specs.Prelude.{ℕ, Bool, false, List, Option, Some, None, refl}
use Rattle.std.specs.FinMap as map
use Rattle.portmap_table.specs.{Rows.{Names, RetiredName, no_names}, declared.row.Row.Row}
use Rattle.portmap_core.specs.{Config.Configuration, Connections.ConnectionMap}
use Rattle.portmap_core.specs.{declared.connection.Connection.Connection, declared.connection.Phase.Phase}
use Rattle.portmap_core.specs.declared.connection.Stage.{Stage}
use Rattle.portmap_core.specs.declared.connection.Stage.TheVariants as stage
use Rattle.portmap_core.specs.declared.connection.Phase.TheVariants as phase

-- The known names, the open connections by slot, and whether the port mapper has ended.
pub record State : Type 0 where
  pub names : Names
  pub connections : ConnectionMap
  pub halted : Bool

abbrev pub empty_state : State
empty_state = record { names = no_names; connections = map.empty; halted = false }

abbrev pub state_of : Names → ConnectionMap → Bool → State
state_of names connections halted = record { names = names; connections = connections; halted = halted }

abbrev pub with_connection : State → ℕ → Connection → State
with_connection s slot connection = record { names = s.names; connections = map.insert s.connections slot connection; halted = s.halted }

-- The phase of the connection in a slot, if the slot is open.
abbrev pub phase_of_stage : Stage → Phase
phase_of_stage (stage.Waiting bytes) = phase.Waiting
phase_of_stage stage.Holding = phase.Holding
phase_of_stage stage.Done = phase.Done

abbrev pub phase_of_connection : Option Connection → Option Phase
phase_of_connection None = None
phase_of_connection (Some connection) = Some (phase_of_stage connection.stage)

abbrev pub phase_at : State → ℕ → Option Phase
phase_at s slot = phase_of_connection (map.get s.connections slot)

-- Injective codes of names and states.
abbrev pub retired_code : Coded RetiredName
retired_code =
    code_by (List ℕ × (ℕ × ℕ)) (coded× (coded_list coded_ℕ) (coded× coded_ℕ coded_ℕ)) (λ old. (old.name, (old.port, old.creation)))
    (λ p. record { name = p.0; port = p.1.0; creation = p.1.1 }) (λ _. refl)

abbrev pub names_code : Coded Row → Coded Names
names_code row =
    code_by (List Row × List RetiredName) (coded× (coded_list row) (coded_list retired_code)) (λ names. (names.active, names.retired))
    (λ p. record { active = p.0; retired = p.1 }) (λ _. refl)

abbrev pub state_code : Coded Names → Coded Connection → Coded State
state_code names connection =
    code_by (Names × (ConnectionMap × Bool)) (coded× names (coded× (map.code coded_ℕ connection) coded_bool))
    (λ s. (s.names, (s.connections, s.halted))) (λ p. record { names = p.0; connections = p.1.0; halted = p.1.1 }) (λ _. refl)

-- A state under its configuration.
pub record Machine : Type 0 where
  pub config : Configuration
  pub state : State

abbrev pub machine_code : Coded Configuration → Coded Names → Coded Connection → Coded Machine
machine_code config names connection =
    code_by (Configuration × (Names × (ConnectionMap × Bool)))
    (coded× config (coded× names (coded× (map.code coded_ℕ connection) coded_bool)))
    (λ m. (m.config, (m.state.names, (m.state.connections, m.state.halted))))
    (λ p. record { config = p.0; state = record { names = p.1.0; connections = p.1.1.0; halted = p.1.1.1 } }) (λ _. refl)
