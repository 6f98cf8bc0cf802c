-- The words of the command: the options of epmd(1). Profile: -workers, -record, -figures, -dump, -health, -once, -check, -play, -local,
-- -audit, -version and -help.
use Rattle.std.specs.Option.{option_or}
use Rattle.std.specs.Prelude.{◌≡◌, ℕ, List, [], ◌∷◌, Bool, true, false, codes, string_bytes, Option, Some, None, ◌⊎◌}
use Rattle.std.specs.{Prelude.String, declared.alloc.Global.Global, declared.vec.Vec.Vec}
use Rattle.portmap_wire.specs.Name.{IsName}
use Rattle.portmap_record.specs.declared.playing.Text.TheVariants as text
use Rattle.portmap_command.specs.{Addresses.ListensOn, Numbers.WritesWithin, declared.items.Word.Word, declared.words.Action.Action}
use Rattle.portmap_command.specs.declared.items.Word.TheVariants.{Act, Addresses, Daemon, Debug, Figures, Port, Recording, Relaxed}
use Rattle.portmap_command.specs.declared.items.Word.TheVariants.{Timeout, Workers}
use Rattle.portmap_command.specs.declared.words.Action.TheVariants as action
use Rattle.portmap_command.specs.declared.words.Ask.TheVariants as ask

-- ---- how an item is spelled

-- The words are those of the item, one or two, and then the rest.
abbrev pub Begins : Word → List (List ℕ) → List (List ℕ) → Type 0
Begins (Port number) words rest = (value : List ℕ) × (words ≡ codes "-port" ∷ value ∷ rest) × WritesWithin 1 65535 value number
Begins (Addresses addresses) words rest = (value : List ℕ) × (words ≡ codes "-address" ∷ value ∷ rest) × ListensOn value addresses.items
Begins (Timeout seconds) words rest = (value : List ℕ) × (words ≡ codes "-packet_timeout" ∷ value ∷ rest)
    × WritesWithin 1 86400 value seconds
Begins (Workers number) words rest = (value : List ℕ) × (words ≡ codes "-workers" ∷ value ∷ rest) × WritesWithin 1 64 value number
Begins Relaxed words rest = words ≡ codes "-relaxed_command_check" ∷ rest
Begins Debug words rest = (words ≡ codes "-d" ∷ rest) ⊎ (words ≡ codes "-debug" ∷ rest)
Begins Daemon words rest = words ≡ codes "-daemon" ∷ rest
Begins (Recording path) words rest = words ≡ codes "-record" ∷ string_bytes path ∷ rest
Begins (Figures path) words rest = words ≡ codes "-figures" ∷ string_bytes path ∷ rest
Begins (Act action.Serve) words rest = ⊥
Begins (Act (action.Ask ask.Names)) words rest = words ≡ codes "-names" ∷ rest
Begins (Act (action.Ask ask.Kill)) words rest = words ≡ codes "-kill" ∷ rest
Begins (Act (action.Ask (ask.Stop name))) words rest = (words ≡ codes "-stop" ∷ name ∷ rest) × IsName name
Begins (Act (action.Ask ask.Dump)) words rest = words ≡ codes "-dump" ∷ rest
Begins (Act action.Health) words rest = words ≡ codes "-health" ∷ rest
Begins (Act action.Once) words rest = words ≡ codes "-once" ∷ rest
Begins (Act action.Version) words rest = words ≡ codes "-version" ∷ rest
Begins (Act action.Help) words rest = words ≡ codes "-help" ∷ rest
Begins (Act (action.Inspect text.Verdict path)) words rest = words ≡ codes "-check" ∷ string_bytes path ∷ rest
Begins (Act (action.Inspect text.Transcript path)) words rest = words ≡ codes "-play" ∷ string_bytes path ∷ rest
Begins (Act (action.Inspect text.LocalRecord path)) words rest = words ≡ codes "-local" ∷ string_bytes path ∷ rest
Begins (Act (action.Audit path)) words rest = words ≡ codes "-audit" ∷ string_bytes path ∷ rest

-- The words are those of the items, in order.
abbrev pub Spells : List (List ℕ) → List Word → Type 0
Spells words [] = words ≡ []
Spells words (item ∷ items) = (rest : List (List ℕ)) × Begins item words rest × Spells rest items

-- ---- what an item sets

abbrev pub action_of : Word → Option Action
action_of (Act action) = Some action
action_of item = None

abbrev pub port_of : Word → Option ℕ
port_of (Port number) = Some number
port_of item = None

abbrev pub addresses_of : Word → Option (Vec (List ℕ) Global)
addresses_of (Addresses addresses) = Some addresses
addresses_of item = None

abbrev pub timeout_of : Word → Option ℕ
timeout_of (Timeout seconds) = Some seconds
timeout_of item = None

abbrev pub workers_of : Word → Option ℕ
workers_of (Workers number) = Some number
workers_of item = None

abbrev pub recording_of : Word → Option (String Global)
recording_of (Recording path) = Some path
recording_of item = None

abbrev pub figures_of : Word → Option (String Global)
figures_of (Figures path) = Some path
figures_of item = None

abbrev pub is_relaxed : Word → Bool
is_relaxed Relaxed = true
is_relaxed item = false

abbrev pub is_debug : Word → Bool
is_debug Debug = true
is_debug item = false

abbrev pub is_daemon : Word → Bool
is_daemon Daemon = true
is_daemon item = false

abbrev pub is_action : Word → Bool
is_action (Act action) = true
is_action item = false

-- What the last of the items that set it sets.
abbrev pub last_by : {X : Type 0} → (Word → Option X) → List Word → Option X
last_by sets [] = None
last_by sets (item ∷ items) = option_or (last_by sets items) (sets item)
