-- The ranges of a command's values, by the words that give them.
use Rattle.std.specs.{Option.option_or, Prelude.{option_map, string_bytes, unwrap_or, IfSome}}
use Rattle.std.proofs.Common.{ℕ, List, [], ◌∷◌, Option, Some, None, refl, sym, subst, inl, arith}
use Rattle.std.specs.{declared.alloc.Global.Global, declared.vec.Vec.Vec}
use Rattle.portmap_command.specs.{Addresses.{AreListening, anywhere}, Meaning.{CanServe, IsPort, SaysCommand}, Numbers.IsWithin}
use Rattle.portmap_command.specs.Words.{Begins, Spells, last_by, port_of, addresses_of, timeout_of, workers_of}
use Rattle.portmap_command.specs.{declared.plan.TheConstants.{TIMEOUT, WORKERS}, declared.words.{Command.Command, Env.Env}}
use Rattle.portmap_command.specs.declared.items.Word.{Word, TheVariants.{Port, Addresses, Timeout, Workers}}
use Rattle.portmap_command.proofs.Listening.{are_listening}

or_fits : {X : Type 0} (Q : X → Type 0) (a b : Option X) → IfSome a Q → IfSome b Q → IfSome (option_or a b) Q
or_fits Q None b p q = q
or_fits Q (Some x) b p q = p

last_fits : {X : Type 0} (sets : Word → Option X) (Q : X → Type 0)
    → ((item : Word) (words rest : List (List ℕ)) → Begins item words rest → IfSome (sets item) Q)
    → (words : List (List ℕ)) (items : List Word) → Spells words items → IfSome (last_by sets items) Q
last_fits sets Q fits words [] s = tt
last_fits sets Q fits words (x ∷ xs) s = or_fits Q (last_by sets xs) (sets x) (last_fits sets Q fits s.0 xs s.2) (fits x words s.0 s.1)

usual_fits : {X : Type 0} (Q : X → Type 0) (o : Option X) (usual : X) → IfSome o Q → Q usual → Q (unwrap_or o usual)
usual_fits Q None usual p q = q
usual_fits Q (Some x) usual p q = p

begins_port : (item : Word) (words rest : List (List ℕ)) → Begins item words rest → IfSome (port_of item) (IsWithin 1 65535)
begins_port (Port number) words rest b = b.2.1
begins_port item words rest b = tt

begins_timeout : (item : Word) (words rest : List (List ℕ)) → Begins item words rest → IfSome (timeout_of item) (IsWithin 1 86400)
begins_timeout (Timeout seconds) words rest b = b.2.1
begins_timeout item words rest b = tt

begins_workers : (item : Word) (words rest : List (List ℕ)) → Begins item words rest → IfSome (workers_of item) (IsWithin 1 64)
begins_workers (Workers number) words rest b = b.2.1
begins_workers item words rest b = tt

abbrev Listens : Vec (List ℕ) Global → Type 0
Listens addresses = AreListening addresses.items

begins_addresses : (item : Word) (words rest : List (List ℕ)) → Begins item words rest → IfSome (addresses_of item) Listens
begins_addresses (Addresses addresses) words rest b = are_listening b.0 addresses.items b.2
begins_addresses item words rest b = tt

port_fits : (o : Option ℕ) (text : Option (List ℕ)) (port : ℕ) → IfSome o (IsWithin 1 65535) → IsPort o text port → IsWithin 1 65535 port
port_fits (Some number) text port f e = subst (IsWithin 1 65535) (sym e) f
port_fits None (Some text) port f w = w.1
port_fits None None port f e = (omega arith, omega arith)

all_listen : (o : Option (Vec (List ℕ) Global)) → IfSome o Listens
    → AreListening (unwrap_or (option_map (λ (addresses : Vec (List ℕ) Global). addresses.items) o) (anywhere ∷ []))
all_listen None f = inl refl
all_listen (Some addresses) f = f

pub port_within : (words : List (List ℕ)) (env : Env) (command : Command) → SaysCommand words env command → IsWithin 1 65535 command.port
port_within words env command (items, plan, spells, holds, made) =
    port_fits (last_by port_of items) (option_map string_bytes env.port) command.port
    (last_fits port_of (IsWithin 1 65535) begins_port words items spells)
    (subst (λ (o : Option ℕ). IsPort o (option_map string_bytes env.port) command.port) holds.port made.port)

pub can_serve : (words : List (List ℕ)) (env : Env) (command : Command) → SaysCommand words env command → CanServe command
can_serve words env command (items, plan, spells, holds, made) = record {
  addresses = rw (made.addresses, holds.addresses)
      (all_listen (last_by addresses_of items) (last_fits addresses_of Listens begins_addresses words items spells));
  timeout = rw (made.timeout, holds.timeout) (usual_fits (IsWithin 1 86400) (last_by timeout_of items) TIMEOUT
      (last_fits timeout_of (IsWithin 1 86400) begins_timeout words items spells) (omega arith, omega arith));
  workers = rw (made.workers, holds.workers) (usual_fits (IsWithin 1 64) (last_by workers_of items) WORKERS
      (last_fits workers_of (IsWithin 1 64) begins_workers words items spells) (omega arith, omega arith));
}
