-- The command that items and the environment make: profile, with the environment's variables of epmd(1).
use Rattle.std.specs.{List.list_any, Option.option_or, Prelude.{◌≡◌, ℕ, ◌+◌, Bool, true, ◌<◌, List}}
use Rattle.std.specs.Prelude.{[], ◌∷◌, if◌then◌else◌, ◌||◌, string_bytes, Option, Some, None, option_map, is_some}
use Rattle.std.specs.{Prelude.{count_by, unwrap_or}, declared.io.ErrorKind.{ErrorKind, TheVariants.OutOfMemory}}
use Rattle.portmap_command.specs.{Addresses.{anywhere, AreListening}, Numbers.{IsWithin, WritesWithin}, declared.items.Word.Word}
use Rattle.portmap_command.specs.Words.{action_of, port_of, addresses_of, timeout_of, workers_of, recording_of, figures_of}
use Rattle.portmap_command.specs.{Words.{is_relaxed, is_debug, is_daemon, is_action, last_by, Spells}, declared.plan.Plan.Plan}
use Rattle.portmap_command.specs.{declared.plan.TheConstants.{TIMEOUT, WORKERS}, declared.words.Command.Command}
use Rattle.portmap_command.specs.{declared.words.Action.TheVariants.Serve, declared.words.Env.Env, declared.words.WordFault.WordFault}
use Rattle.portmap_command.specs.declared.words.WordFault.TheVariants.{BadEnvPort, BadValue, MissingValue, NoMemory, NotUtf8}
use Rattle.portmap_command.specs.declared.words.WordFault.TheVariants.{TwoCommands, Unknown}
use Rattle.portmap_command.specs.declared.actions.TheConstants as actions

-- ---- plans

-- The plan has what these items say: the last value of each kind, and at most one action.
pub record Holds (items : List Word) (plan : Plan) : Type 0 where
  pub action : plan.action ≡ last_by action_of items
  pub actions : count_by is_action items ≡ (if is_some plan.action then 1 else 0)
  pub port : plan.port ≡ last_by port_of items
  pub addresses : plan.addresses ≡ last_by addresses_of items
  pub timeout : plan.timeout ≡ last_by timeout_of items
  pub workers : plan.workers ≡ last_by workers_of items
  pub relaxed : plan.relaxed ≡ list_any is_relaxed items
  pub debug : plan.debug ≡ list_any is_debug items
  pub daemon : plan.daemon ≡ list_any is_daemon items
  pub recording : plan.recording ≡ last_by recording_of items
  pub figures : plan.figures ≡ last_by figures_of items

-- One more item turns the plan `old` into `new`.
pub record Adds (item : Word) (old new : Plan) : Type 0 where
  pub action : new.action ≡ option_or (action_of item) old.action
  pub port : new.port ≡ option_or (port_of item) old.port
  pub addresses : new.addresses ≡ option_or (addresses_of item) old.addresses
  pub timeout : new.timeout ≡ option_or (timeout_of item) old.timeout
  pub workers : new.workers ≡ option_or (workers_of item) old.workers
  pub relaxed : new.relaxed ≡ (old.relaxed || is_relaxed item)
  pub debug : new.debug ≡ (old.debug || is_debug item)
  pub daemon : new.daemon ≡ (old.daemon || is_daemon item)
  pub recording : new.recording ≡ option_or (recording_of item) old.recording
  pub figures : new.figures ≡ option_or (figures_of item) old.figures

-- ---- the command

-- The port of an item, else of the environment, else the usual port.
abbrev pub IsPort : Option ℕ → Option (List ℕ) → ℕ → Type 0
IsPort (Some number) text port = port ≡ number
IsPort None (Some text) port = WritesWithin 1 65535 text port
IsPort None None port = port ≡ actions.PORT

-- The command of a plan in this environment.
pub record Completes (plan : Plan) (env : Env) (command : Command) : Type 0 where
  pub action : command.action ≡ unwrap_or plan.action Serve
  pub port : IsPort plan.port (option_map string_bytes env.port) command.port
  pub says_where : command.says_where ≡ (is_some plan.port || is_some plan.addresses || is_some env.port)
  pub relaxed : command.relaxed ≡ (plan.relaxed || env.relaxed)
  pub addresses : command.addresses.items ≡ unwrap_or (option_map (λ addresses. addresses.items) plan.addresses) (anywhere ∷ [])
  pub timeout : command.timeout ≡ unwrap_or plan.timeout TIMEOUT
  pub workers : command.workers ≡ unwrap_or plan.workers WORKERS
  pub debug : command.debug ≡ plan.debug
  pub daemon : command.daemon ≡ plan.daemon
  pub recording : command.recording ≡ plan.recording
  pub figures : command.figures ≡ plan.figures

-- The words spell items whose plan makes this command in this environment.
abbrev pub SaysCommand : List (List ℕ) → Env → Command → Type 0
SaysCommand words env command = (items : List Word) × (plan : Plan) × Spells words items × Holds items plan × Completes plan env command

-- A daemon can serve by this command.
pub record CanServe (command : Command) : Type 0 where
  pub addresses : AreListening command.addresses.items
  pub timeout : IsWithin 1 86400 command.timeout
  pub workers : IsWithin 1 64 command.workers

-- The fault is of the word `index`, with `behind` words after it, or of its value. A second action needs an action before it.
abbrev pub IsFaultAt : ℕ → ℕ → Bool → WordFault → Type 0
IsFaultAt index behind has_action (Unknown at) = at ≡ index
IsFaultAt index behind has_action (MissingValue at) = (at ≡ index) × (behind ≡ 0)
IsFaultAt index behind has_action (BadValue at) = (at ≡ index + 1) × (0 < behind)
IsFaultAt index behind has_action (TwoCommands at) = (at ≡ index) × (has_action ≡ true)
IsFaultAt index behind has_action NotUtf8 = ⊥
IsFaultAt index behind has_action BadEnvPort = ⊥
IsFaultAt index behind has_action NoMemory = Unit {0}

-- The fault names one of `count` words.
abbrev pub NamesWord : ℕ → WordFault → Type 0
NamesWord count (Unknown at) = at < count
NamesWord count (MissingValue at) = at + 1 ≡ count
NamesWord count (BadValue at) = (0 < at) × (at < count)
NamesWord count (TwoCommands at) = at < count
NamesWord count NotUtf8 = Unit {0}
NamesWord count BadEnvPort = Unit {0}
NamesWord count NoMemory = Unit {0}

-- The fault of an error in reading the system's words: memory ran out, or a word is not UTF-8.
abbrev pub fault_of_words : ErrorKind → WordFault
fault_of_words OutOfMemory = NoMemory
fault_of_words kind = NotUtf8
