-- The response to a request, computed before any change, and the change that goes with it.
use Rattle.std.specs.Prelude.{◌≡◌, ℕ, Bool, false, List, Option, Some, None, Result, Ok, Err, IfOk}
use Rattle.portmap_wire.specs.{Node.Node, ReplyReading.alive_answer, declared.reply_reading.AliveReply.AliveReply}
use Rattle.portmap_wire.specs.declared.reply_reading.ReplyFault.{ReplyFault}
use Rattle.portmap_wire.specs.declared.reply_reading.AliveReply.TheVariants as reply
use Rattle.portmap_feed.specs.Stream.{first_request}
use Rattle.portmap_table.specs.{Creation.{IsLegalCreation, choice}, Table.TableState}
use Rattle.portmap_table.specs.Rows as rows
use Rattle.portmap_core.specs.{Config.Configuration, Connections.stopped_in, Held.stage_held}
use Rattle.portmap_core.specs.{Serving.{Served, ServesReceived, list_of}, State.Machine, declared.asked.RequestContext.RequestContext}
use Rattle.portmap_core.specs.{declared.connection.Phase.Phase, declared.live.Said.Said}
use Rattle.portmap_core.specs.declared.serve.Change.{Change, TheVariants.{Listed, Nothing, Register, Retire}}
use Rattle.portmap_core.specs.declared.serve.Response.{Response}

-- ---- changes

-- The names after a change.
abbrev pub names_after : ℕ → ℕ → Change → rows.Names → rows.Names
names_after known_max slot Nothing names = names
names_after known_max slot Listed names = names
names_after known_max slot (Register g creation) names = rows.registered g creation slot (rows.with_room known_max g.name names)
names_after known_max slot (Retire owner) names = rows.retired_of owner names

-- The slot of the other connection whose name a change retires.
abbrev pub stopped_by : Change → Option ℕ
stopped_by Nothing = None
stopped_by Listed = None
stopped_by (Register g creation) = None
stopped_by (Retire owner) = Some owner

-- The name is free to register, and the creation is legal.
pub record MayRegister (known_max : ℕ) (names : rows.Names) (g : Node) (creation : ℕ) : Type 0 where
  pub active : rows.is_active g.name names ≡ false
  pub room : rows.is_full_for known_max g.name names ≡ false
  pub legal : IsLegalCreation g.high (rows.remembered g.name names) creation

-- The precondition of a change.
abbrev pub MayChange : ℕ → rows.Names → Change → Type 0
MayChange known_max names Nothing = Unit {0}
MayChange known_max names Listed = Unit {0}
MayChange known_max names (Register g creation) = MayRegister known_max names g creation
MayChange known_max names (Retire owner) = Unit {0}

-- The reply of `Listed` is the list of active names. With no creation wanted, a name gets the choice.
abbrev pub IsChosen : ℕ → TableState → Option ℕ → List ℕ → Change → Type 0
IsChosen port t wanted reply Nothing = Unit {0}
IsChosen port t wanted reply Listed = reply ≡ list_of port t.names
IsChosen port t wanted reply (Register g creation) = wanted ≡ None → creation ≡ choice t.counter g.high (rows.remembered g.name t.names)
IsChosen port t wanted reply (Retire owner) = Unit {0}

-- ---- responses

-- The result of a response for the connection in `slot`, which keeps `bytes` while it waits.
abbrev pub served_by : Configuration → rows.Names → ℕ → List ℕ → Response → Served
served_by cfg names slot bytes response = record {
  reply = response.reply.items;
  fate = response.fate;
  stage = stage_held response.phase bytes;
  names = names_after cfg.known_max slot response.change names;
  stopped = stopped_by response.change;
}

-- The result of the response is `o` for every slot, and its change is allowed.
pub record IsResponse (asked : RequestContext) (response : Response) (o : Served) : Type 0 where
  pub is : (slot : ℕ) (bytes : List ℕ) → served_by asked.config asked.table.now.names slot bytes response ≡ o
  pub may : MayChange asked.config.known_max asked.table.now.names response.change
  pub chosen : IsChosen asked.config.port asked.table.now asked.wanted response.reply.items response.change

-- The machine made the response, except for the stage of the connection, which has sent `all` and keeps `bytes`.
pub record IsSettled (m m' : Machine) (local : Bool) (slot : ℕ) (all bytes : List ℕ) (said : Said) (next : Phase) : Type 0 where
  pub stopped : Option ℕ
  pub response : ServesReceived m.config m.state.names local slot all (first_request all)
      (record { reply = said.reply.items; fate = said.fate; stage = stage_held next bytes; names = m'.state.names; stopped = stopped })
  pub again : said.again.items ≡ said.reply.items
  pub config : m'.config ≡ m.config
  pub connections : m'.state.connections ≡ stopped_in stopped m.state.connections
  pub halted : m'.state.halted ≡ m.state.halted

-- The creation that a reply carries, if any.
abbrev pub shown_in : Result AliveReply ReplyFault → Option ℕ
shown_in (Ok (reply.Given creation)) = Some creation
shown_in (Ok (reply.Refused code)) = None
shown_in (Err fault) = None

abbrev pub shown_creation : List ℕ → Option ℕ
shown_creation reply = shown_in (alive_answer reply)

-- `o` is a correct result, and every correct result whose reply carries the creation `wanted` is `o`.
pub record IsOnlyResponse (IsResponse : Served → Type 0) (wanted : Option ℕ) (o : Served) : Type 0 where
  pub response : IsResponse o
  pub only : (other : Served) → IsResponse other → shown_creation other.reply ≡ wanted → other ≡ o

-- `IsOnlyResponse` holds of the response for every slot, and its change is allowed.
pub record IsResponseAtAnySlot (Is : ℕ → Served → Type 0) (asked : RequestContext) (bytes : List ℕ) (response : Response) : Type 0 where
  pub all : (slot : ℕ) → IsOnlyResponse (Is slot) asked.wanted (served_by asked.config asked.table.now.names slot bytes response)
  pub may : MayChange asked.config.known_max asked.table.now.names response.change
  pub chosen : IsChosen asked.config.port asked.table.now asked.wanted response.reply.items response.change

-- `IsResponseAtAnySlot` holds of the result for all kept bytes, unless memory ran out.
abbrev pub RespondsAtAnySlot : {E : Type 0} → RequestContext → Result Response E → (Configuration → rows.Names → ℕ → Served → Type 0)
    → Type 0
RespondsAtAnySlot asked result Is = IfOk result (λ response. (bytes : List ℕ)
    → IsResponseAtAnySlot (Is asked.config asked.table.now.names) asked bytes response)

abbrev pub Answers : {E : Type 0} → RequestContext → Result Response E → (Configuration → rows.Names → Served) → Type 0
Answers asked result served = IfOk result (λ response. IsResponse asked response (served asked.config asked.table.now.names))
