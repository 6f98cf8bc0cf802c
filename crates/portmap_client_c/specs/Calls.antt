-- Calls over a connected socket, whose bytes are unknown: the properties over any stream, for a stream without known bytes.
use Rattle.std.specs.Prelude.{◌≡◌, ◌≢◌, ℕ, ℤ, ◌+◌, false, List, [], ◌++◌, Option, Some, None, Result, Ok, Err}
use Rattle.std.specs.{declared.alloc.Global.Global, declared.vec.Vec.Vec}
use Rattle.portmap_wire.specs.{Node.Node, Reply.be4, declared.list.Line.Line}
use Rattle.portmap_wire.specs.declared.request.Request.TheVariants.{Alive, Port, Names, Dump}
use Rattle.portmap_wire.specs.declared.request.Request.TheVariants as request
use Rattle.portmap_client.specs.Answer.{SaysCreation, SaysDump, SaysFound, SaysKill, SaysNames, SaysStop}
use Rattle.portmap_client.specs.{Exchange.{Calls, StreamView}, declared.fault.ClientFault.ClientFault}
use Rattle.portmap_client.specs.{declared.outcome.Kill.Kill, declared.outcome.Stop.Stop}
use Rattle.portmap_client.specs.declared.fault.ClientFault.TheVariants as client
use Rattle.portmap_client.specs.declared.outcome.Kill.TheVariants as kill
use Rattle.portmap_client.specs.declared.outcome.Stop.TheVariants as stop
use Rattle.portmap_client_c.specs.{Answers.OffsetsIn, Status.client_status, Writing.{Puts, PutsList}}
use Rattle.portmap_client_c.specs.{declared.node.EpmdAlive.EpmdAlive, declared.node.EpmdFound.EpmdFound}
use Rattle.portmap_client_c.specs.declared.status.TheConstants.{EPMD_OK, EPMD_NOT_REGISTERED, EPMD_NO_EXIST}
use Rattle.portmap_client_c.specs.declared.status.TheConstants.{EPMD_NOT_ALLOWED, EPMD_NO_MEMORY}

-- The calls, by their effect on a stream and their result.
abbrev pub Registers : Node → StreamView → StreamView → Result ℕ ClientFault → Type 0
Registers g old new answer = Calls (Alive g) SaysCreation old new answer

abbrev pub LooksUp : List ℕ → StreamView → StreamView → Result (Option Node) ClientFault → Type 0
LooksUp name old new answer = Calls (Port name) SaysFound old new answer

abbrev pub ListsNames : StreamView → StreamView → Result (ℕ × Vec Line Global) ClientFault → Type 0
ListsNames old new answer = Calls Names SaysNames old new answer

abbrev pub Dumps : StreamView → StreamView → Result (ℕ × Vec ℕ Global) ClientFault → Type 0
Dumps old new answer = Calls Dump SaysDump old new answer

abbrev pub Kills : StreamView → StreamView → Result Kill ClientFault → Type 0
Kills old new answer = Calls request.Kill SaysKill old new answer

abbrev pub Stops : List ℕ → StreamView → StreamView → Result Stop ClientFault → Type 0
Stops name old new answer = Calls (request.Stop name) SaysStop old new answer

-- The call was made, and `Tells` holds of its result.
pub record Asks {X : Type 0} (Called : StreamView → StreamView → Result X ClientFault → Type 0) (old new : StreamView)
    (Tells : Result X ClientFault → Type 0) : Type 0 where
  pub answer : Result X ClientFault
  pub called : Called old new answer
  pub tells : Tells answer

-- A new stream whose bytes are unknown.
abbrev pub unasked : StreamView
unasked = record { left = None; held = None; pulls = []; puts = []; broken = false }

-- The call was made over a new stream whose bytes are unknown.
pub record AsksOnce {X : Type 0} (Called : StreamView → StreamView → Result X ClientFault → Type 0)
    (Tells : Result X ClientFault → Type 0) : Type 0 where
  pub after : StreamView
  pub asks : Asks Called unasked after Tells

-- `Asked` holds of a request that can be encoded. Otherwise `Refused` holds of the status.
abbrev pub IfSaid : {X : Type 0} → Result X ℤ → (X → Type 0) → (ℤ → Type 0) → Type 0
IfSaid (Ok x) Asked Refused = Asked x
IfSaid (Err status) Asked Refused = Refused status

-- ---- reports

abbrev pub kill_status : Result Kill ClientFault → ℤ
kill_status (Ok kill.Killed) = EPMD_OK
kill_status (Ok kill.NotAllowed) = EPMD_NOT_ALLOWED
kill_status (Err fault) = client_status fault

abbrev pub stop_status : Result Stop ClientFault → ℤ
stop_status (Ok stop.Stopped) = EPMD_OK
stop_status (Ok stop.NoExist) = EPMD_NO_EXIST
stop_status (Ok stop.NotAllowed) = EPMD_NOT_ALLOWED
stop_status (Err fault) = client_status fault

-- A refused registration is reported with its result. Other faults change nothing.
abbrev pub alive_after : ClientFault → EpmdAlive → EpmdAlive
alive_after (client.Refused code) alive = record { creation = 0; code = code }
alive_after fault alive = alive

abbrev pub ReportsCreation : Result ℕ ClientFault → EpmdAlive → EpmdAlive → ℤ → Type 0
ReportsCreation (Ok creation) old new status = (status ≡ EPMD_OK) × (new ≡ record { creation = creation; code = 0 })
ReportsCreation (Err fault) old new status = (status ≡ client_status fault) × (new ≡ alive_after fault old)

-- The report of a node. Its texts are in a buffer: the name, then the extra bytes.
pub record ReportsNode (g : Node) (old new : List ℕ) (found : EpmdFound) (status : ℤ) : Type 0 where
  pub places : OffsetsIn 0 0 g found
  pub texts : Puts (g.name ++ g.extra) old new (found.name.size + found.extra.size) status

abbrev pub ReportsLookup : Result (Option Node) ClientFault → List ℕ → List ℕ → EpmdFound → EpmdFound → ℤ → Type 0
ReportsLookup (Ok (Some g)) old new was is status = ReportsNode g old new is status
ReportsLookup (Ok None) old new was is status = (status ≡ EPMD_NOT_REGISTERED) × (new ≡ old) × (is ≡ was)
ReportsLookup (Err fault) old new was is status = (status ≡ client_status fault) × (new ≡ old) × (is ≡ was)

-- The report of a list, as a port mapper encodes it.
abbrev pub ReportsNames : Result (ℕ × Vec Line Global) ClientFault → List ℕ → List ℕ → ℕ → ℤ → Type 0
ReportsNames (Ok list) old new size status = PutsList list.0 list.1.items old new size status
ReportsNames (Err fault) old new size status = (status ≡ client_status fault) × (new ≡ old) × (size ≡ 0)

abbrev pub ReportsDump : Result (ℕ × Vec ℕ Global) ClientFault → List ℕ → List ℕ → ℕ → ℤ → Type 0
ReportsDump (Ok dump) old new size status = Puts (be4 dump.0 ++ dump.1.items) old new size status × (status ≢ EPMD_NO_MEMORY)
ReportsDump (Err fault) old new size status = (status ≡ client_status fault) × (new ≡ old) × (size ≡ 0)
