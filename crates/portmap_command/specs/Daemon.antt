-- The settings of a daemon, and what is printed when it ends: profile.
use Rattle.std.specs.{Duration.as_nanos, Fmt.decimal, List.concat, Prelude.{◌≡◌, ℕ, ◌+◌, ◌==◌, List, [], ◌∷◌, ◌++◌}}
use Rattle.std.specs.Prelude.{codes, slice_get, slice_index, if◌then◌else◌, ◌%◌, ◌^◌}
use Rattle.std.specs.Prelude.{string_bytes, Option, Some, None, option_map, Result, Ok, Err}
use Rattle.std.specs.declared.time.Duration.{Duration}
use Rattle.portmap_core.specs.Config.{Configuration}
use Rattle.portmap_daemon.specs.declared.daemon.RunEnd.{RunEnd}
use Rattle.portmap_daemon.specs.declared.daemon.RunFault.{RunFault, TheVariants.{Listen, ListenBeside, NoMemory, Poll}}
use Rattle.portmap_daemon.specs.declared.daemon.Settings.{Settings}
use Rattle.portmap_command.specs.{Actions.line_of, declared.actions.Failure.TheVariants.{Polling, Memory}}
use Rattle.portmap_command.specs.declared.words.Command.{Command}
use Rattle.portmap_command.specs.declared.actions.TheConstants as actions
use Rattle.portmap_command.specs.declared.daemon.TheConstants as the

-- Where creations start: the nanoseconds since 1970, modulo 2^32.
abbrev pub first_by : Option Duration → ℕ
first_by None = 0
first_by (Some now) = as_nanos now % 2 ^ 32

abbrev pub config_of : Command → Configuration
config_of command = record {
  port = command.port;
  relaxed = command.relaxed;
  conn_max = actions.CONNECTIONS_MOST;
  known_max = actions.NAMES_MOST;
}

-- The settings are those of the command at this time since 1970.
pub record SetsAs (command : Command) (now : Option Duration) (settings : Settings) : Type 0 where
  pub config : settings.config ≡ config_of command
  pub first : settings.first ≡ first_by now
  pub addresses : settings.addresses.items ≡ command.addresses.items
  pub timeout : settings.timeout ≡ command.timeout
  pub workers : settings.workers ≡ command.workers
  pub recording : option_map string_bytes settings.recording ≡ option_map string_bytes command.recording
  pub figures : option_map string_bytes settings.figures ≡ option_map string_bytes command.figures

abbrev pub status_of_end : Result RunEnd RunFault → ℕ
status_of_end (Ok end) = if end.recorded then actions.DONE else actions.FAILED
status_of_end (Err (Listen index error)) = actions.NOT_DONE
status_of_end (Err (ListenBeside index error)) = actions.NOT_DONE
status_of_end (Err Poll) = actions.FAILED
status_of_end (Err NoMemory) = actions.FAILED

-- ---- what is printed

abbrev pub served_line : ℕ → ℕ → List ℕ
served_line worker count = concat (the.WORKER.now ∷ decimal worker ∷ the.SERVED.now ∷ decimal count ∷ (10 ∷ []) ∷ [])

-- The lines of the workers, numbered from `worker` on.
abbrev pub served_lines : ℕ → List ℕ → List ℕ
served_lines worker [] = []
served_lines worker (count ∷ counts) = served_line worker count ++ served_lines (worker + 1) counts

abbrev pub cannot_listen_line : List ℕ → ℕ → List ℕ → List ℕ
cannot_listen_line address port reason =
    let number = λ (index : ℕ). decimal (slice_index address index) in
    concat (the.CANNOT_LISTEN.now ∷ number 0 ∷ codes "." ∷ number 1 ∷ codes "." ∷ number 2 ∷ codes "." ∷ number 3 ∷ codes ":"
    ∷ decimal port ∷ codes ": " ∷ reason ∷ (10 ∷ []) ∷ [])

-- The IPv6 address that goes with an IPv4 address: every address of the host, or the host itself.
abbrev pub beside : List ℕ → List ℕ
beside address = if slice_index address 0 == 0 then the.EVERYWHERE.now else the.ITSELF.now

abbrev pub refused_line : List ℕ → List ℕ → List ℕ → List ℕ
refused_line address port reason = concat (the.CANNOT_LISTEN.now ∷ address ∷ port ∷ codes ": " ∷ reason ∷ (10 ∷ []) ∷ [])

abbrev pub without_ipv6_line : List ℕ → ℕ → List ℕ → List ℕ
without_ipv6_line address port reason = refused_line (beside address) (decimal port) reason

-- With debug output, what each worker served. For a daemon that did not serve, why, with the system's reason for a refused address.
abbrev pub text_of_end : Command → Result RunEnd RunFault → List ℕ → Option (List ℕ)
text_of_end command (Ok end) reason = if command.debug then Some (served_lines 1 end.served.items) else None
text_of_end command (Err (Listen index error)) reason =
    option_map (λ address. cannot_listen_line address command.port reason) (slice_get command.addresses.items index)
text_of_end command (Err (ListenBeside index error)) reason =
    option_map (λ address. without_ipv6_line address command.port reason) (slice_get command.addresses.items index)
text_of_end command (Err Poll) reason = Some (line_of Polling)
text_of_end command (Err NoMemory) reason = Some (line_of Memory)
