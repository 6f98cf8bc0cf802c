-- The configuration of a port mapper: its port and relaxed checks (epmd(1)), and its limits (profile).
use Rattle.std.specs.Prelude.{ℕ, ◌<◌, ◌≤◌, ◌^◌, Bool, Result, Ok, Err, nat_lt, ◌==◌, if◌then◌else◌}
use Rattle.portmap_core.specs.declared.config.ConfigFault.{ConfigFault}
use Rattle.portmap_core.specs.declared.config.ConfigFault.TheVariants.{TooManyConnections, TooManyNames}
use Rattle.portmap_core.specs.declared.config.ConfigFault.TheVariants.{ZeroConnections, ZeroNames}
use Rattle.portmap_core.specs.declared.config.TheConstants.{LIMIT_MOST}

pub record Configuration : Type 0 where
  pub port : ℕ
  pub relaxed : Bool
  pub conn_max : ℕ
  pub known_max : ℕ

-- Both limits are 1 to 65,535.
pub record IsConfiguration (cfg : Configuration) : Type 0 where
  pub port : cfg.port < 2 ^ 16
  pub some_connections : 1 ≤ cfg.conn_max
  pub connections : cfg.conn_max ≤ LIMIT_MOST
  pub some_names : 1 ≤ cfg.known_max
  pub names : cfg.known_max ≤ LIMIT_MOST

-- The configuration of these values, or the first limit that is out of range.
abbrev pub configured : ℕ → Bool → ℕ → ℕ → Result Configuration ConfigFault
configured port relaxed conn_max known_max =
    if conn_max == 0 then Err ZeroConnections
    else if nat_lt LIMIT_MOST conn_max then Err TooManyConnections
    else if known_max == 0 then Err ZeroNames
    else if nat_lt LIMIT_MOST known_max then Err TooManyNames
    else Ok (record { port = port; relaxed = relaxed; conn_max = conn_max; known_max = known_max })
