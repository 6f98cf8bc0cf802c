-- The result of a request. It depends only on the configuration, the names, the locality of the peer and the slot of
-- its connection. ERTS User's Guide, EPMD Protocol: the requests and their replies. epmd(1): the requests of remote
-- peers, and relaxed checks. Profile: a malformed request closes its connection, and remote peers get no reply to other
-- requests. The cases are in the order of the table of docs/PROTOCOL.md.
use Rattle.std.specs.Prelude.{◌≡◌, ℕ, Bool, not, ◌||◌, List, [], ◌++◌, map as list_map, length, ◌==◌, Option, Some}
use Rattle.std.specs.Prelude.{None, option_map, codes, ◌⊎◌, if◌then◌else◌}
use Rattle.portmap_wire.specs.{List.{names_reply, dump_reply}, Node.Node, Reply.{alive_reply, port2_reply}}
use Rattle.portmap_wire.specs.{Request.{Spells, IsMalformed}, declared.list.DumpLine.DumpLine, declared.list.Line.Line}
use Rattle.portmap_wire.specs.declared.request.Request.{Request, TheVariants.{Alive, Dump, Kill, Names, Port, Stop}}
use Rattle.portmap_feed.specs.Stream.{Framing, More, Zero, TooLarge, Whole}
use Rattle.portmap_table.specs.{Creation.IsLegalCreation, declared.row.Row.Row}
use Rattle.portmap_table.specs.Rows as rows
use Rattle.portmap_core.specs.Config.{Configuration}
use Rattle.portmap_core.specs.declared.connection.Stage.{Stage, TheVariants.{Done, Holding, Waiting}}
use Rattle.portmap_core.specs.declared.event.Fate.{Fate, TheVariants.{Close, Halt, Stay}}

-- The reply, the fate of the connection, its next stage, the names, and the slot of another connection whose name was
-- stopped.
pub record Served : Type 0 where
  pub reply : List ℕ
  pub fate : Fate
  pub stage : Stage
  pub names : rows.Names
  pub stopped : Option ℕ

-- A reply, after which the connection closes.
abbrev pub replied : rows.Names → List ℕ → Served
replied names reply = record { reply = reply; fate = Close; stage = Done; names = names; stopped = None }

-- The connection closes without a reply.
abbrev pub closed : rows.Names → Served
closed names = replied names []

-- No reply: the connection waits, with these bytes received.
abbrev pub awaits : rows.Names → List ℕ → Served
awaits names received = record { reply = []; fate = Stay; stage = Waiting received; names = names; stopped = None }

-- ---- NAMES and PORT_PLEASE2, for any peer

abbrev pub names_line_of : Row → Line
names_line_of row = record { name = row.reg.name; port = row.reg.port }

abbrev pub list_of : ℕ → rows.Names → List ℕ
list_of port names = names_reply port (list_map names_line_of names.active)

abbrev pub names_served : Configuration → rows.Names → Served
names_served cfg names = replied names (list_of cfg.port names)

abbrev pub port_served : rows.Names → List ℕ → Served
port_served names name = replied names (port2_reply (option_map (λ row. row.reg) (rows.active_row name names)))

-- ---- other requests, without a reply to a remote peer

abbrev pub if_local : Bool → rows.Names → Served → Served
if_local local names response = if not local then closed names else response

-- ---- DUMP

abbrev pub active_line : Row → DumpLine
active_line row = record { name = row.reg.name; port = row.reg.port; slot = Some row.slot }

abbrev pub retired_line : rows.RetiredName → DumpLine
retired_line old = record { name = old.name; port = old.port; slot = None }

abbrev pub dump_lines : rows.Names → List DumpLine
dump_lines names = list_map active_line names.active ++ list_map retired_line names.retired

abbrev pub dump_served : Configuration → rows.Names → Served
dump_served cfg names = replied names (dump_reply cfg.port (dump_lines names))

-- ---- KILL

abbrev pub halts : rows.Names → Served
halts names = record { reply = codes "OK"; fate = Halt; stage = Done; names = names; stopped = None }

abbrev pub kill_served : Configuration → rows.Names → Served
kill_served cfg names = if length names.active == 0 || cfg.relaxed then halts names else replied names (codes "NO")

-- ---- STOP

-- The registration of the name ends, and its owner is done.
abbrev pub stops : rows.Names → Option ℕ → Served
stops names (Some owner) = record {
  reply = codes "STOPPED";
  fate = Close;
  stage = Done;
  names = rows.retired_of owner names;
  stopped = Some owner;
}
stops names None = replied names (codes "NOEXIST")

abbrev pub stop_served : Configuration → rows.Names → List ℕ → Served
stop_served cfg names name = if not cfg.relaxed then closed names else stops names (rows.owner_of name names)

-- ---- ALIVE2

-- The name becomes active, and the connection holds it. If the limit is reached, a new name replaces the name that was
-- retired longest ago.
abbrev pub registers : ℕ → rows.Names → ℕ → Node → ℕ → Served
registers known_max names slot g creation =
    record {
      reply = alive_reply g.high 0 creation;
      fate = Stay;
      stage = Holding;
      names = rows.registered g creation slot (rows.with_room known_max g.name names);
      stopped = None;
    }

abbrev pub alive_served : Configuration → rows.Names → ℕ → Node → ℕ → Served
alive_served cfg names slot g creation =
    if rows.is_active g.name names then replied names (alive_reply g.high 1 0)
    else if rows.is_full_for cfg.known_max g.name names then replied names (alive_reply g.high 2 0)
    else registers cfg.known_max names slot g creation

-- ---- every request

-- The result of a request. A name that registers gets this creation.
abbrev pub served : Configuration → rows.Names → Bool → ℕ → Request → ℕ → Served
served cfg names local slot Names creation = names_served cfg names
served cfg names local slot (Port name) creation = port_served names name
served cfg names local slot Dump creation = if_local local names (dump_served cfg names)
served cfg names local slot Kill creation = if_local local names (kill_served cfg names)
served cfg names local slot (Stop name) creation = if_local local names (stop_served cfg names name)
served cfg names local slot (Alive g) creation = if_local local names (alive_served cfg names slot g creation)

-- The creation is legal for a name that registers.
abbrev pub MayGet : rows.Names → Request → ℕ → Type 0
MayGet names (Alive g) creation = IsLegalCreation g.high (rows.remembered g.name names) creation
MayGet names (Port name) creation = Unit {0}
MayGet names Names creation = Unit {0}
MayGet names Dump creation = Unit {0}
MayGet names Kill creation = Unit {0}
MayGet names (Stop name) creation = Unit {0}

-- `o` is a correct result of a request. Only the creation is left open: a registration may get any legal creation.
pub record Serves (cfg : Configuration) (names : rows.Names) (local : Bool) (slot : ℕ) (request : Request) (o : Served) : Type 0 where
  pub creation : ℕ
  pub legal : o.stage ≡ Holding → MayGet names request creation
  pub is : o ≡ served cfg names local slot request creation

-- ---- every body

-- A body that spells a request has the results of the request.
pub record ServesSpelled (cfg : Configuration) (names : rows.Names) (local : Bool) (slot : ℕ) (body : List ℕ) (o : Served) : Type 0 where
  pub request : Request
  pub spells : Spells body request
  pub serves : Serves cfg names local slot request o

-- A body that spells no request closes its connection without a reply.
pub record ServesMalformed (names : rows.Names) (body : List ℕ) (o : Served) : Type 0 where
  pub malformed : IsMalformed body
  pub is : o ≡ closed names

abbrev pub ServesBody : Configuration → rows.Names → Bool → ℕ → List ℕ → Served → Type 0
ServesBody cfg names local slot body o = ServesSpelled cfg names local slot body o ⊎ ServesMalformed names body o

-- `o` is a correct result for a waiting connection that has sent `received`.
abbrev pub ServesReceived : Configuration → rows.Names → Bool → ℕ → List ℕ → Framing → Served → Type 0
ServesReceived cfg names local slot received More o = o ≡ awaits names received
ServesReceived cfg names local slot received Zero o = o ≡ closed names
ServesReceived cfg names local slot received (TooLarge n) o = o ≡ closed names
ServesReceived cfg names local slot received (Whole body) o = ServesBody cfg names local slot body o
