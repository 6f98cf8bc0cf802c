-- Laws of the machine. Each is the contract of a public function.
use Rattle.std.specs.Prelude.{◌≡◌, ◌≢◌, ℕ, ◌+◌, ◌<◌, ◌≤◌, ◌==◌, Bool, true, false, List, [], ◌∷◌, ◌++◌, length, filter}
use Rattle.std.specs.Prelude.{map as list_map, slice_index_or, ◌⊎◌, Some, None, All, codes, nat_lt, if◌then◌else◌}
use Rattle.std.specs.FinMap as map
use Rattle.portmap_wire.specs.{List.{names_line, names_reply}, ListReading.IsReadBack, Node.Node, Reply.{alive_reply, port2_reply}}
use Rattle.portmap_wire.specs.Request.{body_of, sent, IsRequest, IsMalformed, Spells}
use Rattle.portmap_wire.specs.declared.request.Request.{Request}
use Rattle.portmap_wire.specs.declared.request.Request.TheVariants as request
use Rattle.portmap_feed.specs.Stream.{Framing, More, Zero, TooLarge, Whole, first_request}
use Rattle.portmap_table.specs.Rows.{Names, active_row, is_known, known_len, known_names, remembered, same_name}
use Rattle.portmap_table.specs.{Creation.IsLegalCreation, declared.row.Row.Row}
use Rattle.portmap_core.specs.Entry.{Entry, Connected, Piece, Closed, Faulted, Late}
use Rattle.portmap_core.specs.{Config.{Configuration, IsConfiguration}, Owned.IsOwned, Run.Run}
use Rattle.portmap_core.specs.{Serving.names_line_of, State.{State, empty_state, with_connection}, Step.{Step, Says}}
use Rattle.portmap_core.specs.declared.connection.Connection.{Connection}
use Rattle.portmap_core.specs.declared.connection.Stage.TheVariants.{Waiting, Holding}
use Rattle.portmap_core.specs.declared.event.Fate.{Fate, TheVariants.{Close, Halt, Stay}}

-- The first request of written bytes, whatever follows them, is the request that was written.
abbrev pub WrittenIsWhole : Type 0
WrittenIsWhole = (request : Request) (more : List ℕ) → IsRequest request → first_request (sent request ++ more) ≡ Whole (body_of request)

-- From a state, an entry leads to at most one state.
abbrev pub EntriesDetermine : Type 0
EntriesDetermine = (cfg : Configuration) (s a b : State) (e : Entry) → Step cfg s e a → Step cfg s e b → a ≡ b

-- Each transition keeps the invariant.
abbrev pub StepsKeepOwned : Type 0
StepsKeepOwned = (cfg : Configuration) (s s' : State) (e : Entry) → IsOwned cfg s → Step cfg s e s' → IsOwned cfg s'

abbrev pub owners : Names → List ℕ
owners names = list_map (λ row. row.slot) names.active

-- Each active name belongs to exactly one open connection.
pub record NamesBelong (s : State) : Type 0 where
  -- Its slot is open, and the connection there is local and holds a name.
  pub held : (name : List ℕ) (row : Row) → active_row name s.names ≡ Some row
      → (connection : Connection) × (map.get s.connections row.slot ≡ Some connection) × (connection.stage ≡ Holding)
      × (connection.local ≡ true)
  -- No name is known twice, so that each name has one slot.
  pub once : (i j : ℕ) (d : List ℕ) → i < j → j < length (known_names s.names)
      → same_name (slice_index_or (known_names s.names) i d) (slice_index_or (known_names s.names) j d) ≡ false
  -- No slot owns two names.
  pub alone : (i j d : ℕ) → i < j → j < length (owners s.names)
      → (slice_index_or (owners s.names) i d == slice_index_or (owners s.names) j d) ≡ false

-- After any run, each active name belongs to exactly one open connection.
abbrev pub NamesBelongToConnections : Type 0
NamesBelongToConnections = (cfg : Configuration) (es : List Entry) (s : State) → IsConfiguration cfg → Run cfg empty_state es s
    → NamesBelong s

-- The bytes received are malformed: a bad length, or a body that spells no request.
abbrev pub IsBad : Framing → Type 0
IsBad More = ⊥
IsBad Zero = Unit {0}
IsBad (TooLarge n) = Unit {0}
IsBad (Whole body) = IsMalformed body

-- A malformed request changes no name.
abbrev pub MalformedChangesNoName : Type 0
MalformedChangesNoName =
    (cfg : Configuration) (s s' : State) (slot : ℕ) (connection : Connection) (received piece reply : List ℕ) (fate : Fate)
    → map.get s.connections slot ≡ Some connection → connection.stage ≡ Waiting received
    → IsBad (first_request (received ++ piece)) → Says cfg s slot piece reply fate s' → s'.names ≡ s.names

-- A machine that has halted makes no transition.
abbrev pub EndsAreFinal : Type 0
EndsAreFinal = (cfg : Configuration) (s s' : State) (e : Entry) → s.halted ≡ true → Step cfg s e s' → ⊥

-- A connection that holds a name outlasts its timeout: it stays, and nothing changes.
abbrev pub HoldersOutlastTheirTime : Type 0
HoldersOutlastTheirTime =
    (cfg : Configuration) (s s' : State) (slot : ℕ) (fate : Fate) (connection : Connection) → map.get s.connections slot ≡ Some connection
    → connection.stage ≡ Holding → Step cfg s (Late slot fate) s'
    → (fate ≡ Stay) × (s' ≡ s)

-- Unless its checks are relaxed, the port mapper ends only if no name is active.
abbrev pub EndsLeaveNoName : Type 0
EndsLeaveNoName = (cfg : Configuration) (s s' : State) (e : Entry) → cfg.relaxed ≡ false → Step cfg s e s' → s'.halted ≡ true
    → s.names.active ≡ []

-- Known names and open connections are within their limits, and no waiting connection has sent a complete request.
pub record KeepsLimits (cfg : Configuration) (s : State) : Type 0 where
  pub known : known_len s.names ≤ cfg.known_max
  pub few : map.len s.connections ≤ cfg.conn_max
  pub waits : (slot : ℕ) (connection : Connection) (received : List ℕ) → map.get s.connections slot ≡ Some connection
      → connection.stage ≡ Waiting received → first_request received ≡ More

-- After any run, the state is within its limits.
abbrev pub RunsKeepLimits : Type 0
RunsKeepLimits = (cfg : Configuration) (es : List Entry) (s : State) → Run cfg empty_state es s → KeepsLimits cfg s

-- A name that becomes active gets another creation than the creation remembered for it.
abbrev pub TakenCreationsAreNew : Type 0
TakenCreationsAreNew =
    (cfg : Configuration) (s s' : State) (e : Entry) (name : List ℕ) (row : Row) (last : ℕ) → Step cfg s e s'
    → active_row name s.names ≡ None → active_row name s'.names ≡ Some row
    → remembered name s.names ≡ Some last → row.creation ≢ last

-- A chunk on a waiting connection completes a request with this body, and gets this reply.
pub record Completes (cfg : Configuration) (s : State) (slot : ℕ) (connection : Connection) (body reply : List ℕ)
    (s' : State) : Type 0 where
  pub received : List ℕ
  pub piece : List ℕ
  pub fate : Fate
  pub is_open : map.get s.connections slot ≡ Some connection
  pub waits : connection.stage ≡ Waiting received
  pub whole : first_request (received ++ piece) ≡ Whole body
  pub says : Says cfg s slot piece reply fate s'

-- A lookup of an active name returns its whole registration.
abbrev pub ActiveNamesAreFound : Type 0
ActiveNamesAreFound =
    (cfg : Configuration) (s s' : State) (slot : ℕ) (connection : Connection) (body reply name : List ℕ) (row : Row)
    → Completes cfg s slot connection body reply s' → Spells body (request.Port name) → active_row name s.names ≡ Some row
    → reply ≡ port2_reply (Some row.reg)

-- An active name has its line in the list of names.
abbrev pub ActiveNamesAreListed : Type 0
ActiveNamesAreListed =
    (cfg : Configuration) (s s' : State) (slot : ℕ) (connection : Connection) (body reply name : List ℕ) (row : Row)
    → Completes cfg s slot connection body reply s' → Spells body request.Names → active_row name s.names ≡ Some row
    → (before : List ℕ) × (after : List ℕ) × (reply ≡ before ++ names_line (names_line_of row) ++ after)

-- The list has exactly the active names, in order of registration.
abbrev pub ListsAreExact : Type 0
ListsAreExact =
    (cfg : Configuration) (s s' : State) (slot : ℕ) (connection : Connection) (body reply : List ℕ)
    → Completes cfg s slot connection body reply s' → Spells body request.Names
    → reply ≡ names_reply cfg.port (list_map names_line_of s.names.active)

-- After any run, the list is read back as the active names with their ports, in order of registration, and as nothing else.
abbrev pub ListsAreReadBack : Type 0
ListsAreReadBack =
    (cfg : Configuration) (es : List Entry) (s s' : State) (slot : ℕ) (connection : Connection) (body reply : List ℕ)
    → IsConfiguration cfg → Run cfg empty_state es s → Completes cfg s slot connection body reply s' → Spells body request.Names
    → IsReadBack reply cfg.port (list_map names_line_of s.names.active)

-- A request that any host may make: PORT_PLEASE2 or NAMES.
abbrev pub IsLook : Request → Type 0
IsLook (request.Alive g) = ⊥
IsLook (request.Port name) = Unit {0}
IsLook request.Names = Unit {0}
IsLook request.Dump = ⊥
IsLook request.Kill = ⊥
IsLook (request.Stop name) = ⊥

-- A remote peer gets a reply only to PORT_PLEASE2 or NAMES.
abbrev pub RemotePeersMayOnlyLookUp : Type 0
RemotePeersMayOnlyLookUp =
    (cfg : Configuration) (s s' : State) (slot : ℕ) (connection : Connection) (piece reply : List ℕ) (fate : Fate)
    → map.get s.connections slot ≡ Some connection → connection.local ≡ false → Says cfg s slot piece reply fate s'
    → (reply ≡ []) ⊎ ((received : List ℕ) × (body : List ℕ) × (request : Request) × (connection.stage ≡ Waiting received)
    × (first_request (received ++ piece) ≡ Whole body) × Spells body request × IsLook request)

-- ---- replies to local peers

-- A chunk of a local waiting connection completes this request, and gets this reply and fate.
pub record IsReplied (cfg : Configuration) (s : State) (request : Request) (reply : List ℕ) (fate : Fate) (s' : State) : Type 0 where
  pub slot : ℕ
  pub connection : Connection
  pub body : List ℕ
  pub completes : Completes cfg s slot connection body reply s'
  pub fate_is : completes.fate ≡ fate
  pub local : connection.local ≡ true
  pub spells : Spells body request

-- The reply is `text`, the connection closes, and neither the names nor `halted` change.
pub record IsRefused (s : State) (text reply : List ℕ) (fate : Fate) (s' : State) : Type 0 where
  pub reply_is : reply ≡ text
  pub closes : fate ≡ Close
  pub names : s'.names ≡ s.names
  pub halted : s'.halted ≡ s.halted

-- The bytes of a refused registration: ALIVE2_X_RESP (118) from version 6 on, otherwise ALIVE2_RESP (121), then the
-- result and creation 0.
abbrev pub refusal : ℕ → ℕ → List ℕ
refusal high result = if nat_lt high 6 then 121 ∷ result ∷ 0 ∷ 0 ∷ [] else 118 ∷ result ∷ 0 ∷ 0 ∷ 0 ∷ 0 ∷ []

-- The registration of an active name is refused with result 1.
abbrev pub ActiveNamesAreTaken : Type 0
ActiveNamesAreTaken =
    (cfg : Configuration) (s s' : State) (g : Node) (row : Row) (reply : List ℕ) (fate : Fate)
    → IsReplied cfg s (request.Alive g) reply fate s' → active_row g.name s.names ≡ Some row → IsRefused s (refusal g.high 1) reply fate s'

-- The registration of a name that is not known is refused with result 2 if as many names are active as may be known.
abbrev pub NewNamesWantRoom : Type 0
NewNamesWantRoom =
    (cfg : Configuration) (s s' : State) (g : Node) (reply : List ℕ) (fate : Fate) → IsReplied cfg s (request.Alive g) reply fate s'
    → is_known g.name s.names ≡ false → cfg.known_max ≤ length s.names.active → IsRefused s (refusal g.high 2) reply fate s'

-- KILL ends the port mapper if no name is active or the checks are relaxed.
abbrev pub KillsEnd : Type 0
KillsEnd =
    (cfg : Configuration) (s s' : State) (reply : List ℕ) (fate : Fate) → IsReplied cfg s request.Kill reply fate s'
    → (s.names.active ≡ []) ⊎ (cfg.relaxed ≡ true) → (reply ≡ codes "OK") × (fate ≡ Halt) × (s'.halted ≡ true)

-- Otherwise KILL is refused.
abbrev pub KillsAreRefused : Type 0
KillsAreRefused =
    (cfg : Configuration) (s s' : State) (reply : List ℕ) (fate : Fate) → IsReplied cfg s request.Kill reply fate s'
    → s.names.active ≢ [] → cfg.relaxed ≡ false → IsRefused s (codes "NO") reply fate s'

-- ---- how long a name stays registered

-- The name is active in `s'`, with this registration, a legal creation and this slot. The reply carries the creation.
abbrev pub IsRegistered : State → Node → ℕ → List ℕ → Fate → State → Type 0
IsRegistered s g slot reply fate s' =
    (creation : ℕ) × IsLegalCreation g.high (remembered g.name s.names) creation × (reply ≡ alive_reply g.high 0 creation) × (fate ≡ Stay)
    × (active_row g.name s'.names ≡ Some (record { reg = g; creation = creation; slot = slot }))

-- The registration of a name that is not active succeeds if the name is known or has room.
abbrev pub FreeNamesRegister : Type 0
FreeNamesRegister =
    (cfg : Configuration) (s s' : State) (g : Node) (reply : List ℕ) (fate : Fate) (t : IsReplied cfg s (request.Alive g) reply fate s')
    → active_row g.name s.names ≡ None → (is_known g.name s.names ≡ true) ⊎ (length s.names.active < cfg.known_max)
    → IsRegistered s g t.slot reply fate s'

-- It also succeeds if at most as many connections are open as names may be known.
abbrev pub FreeNamesHaveRoom : Type 0
FreeNamesHaveRoom =
    (cfg : Configuration) (s s' : State) (g : Node) (reply : List ℕ) (fate : Fate) (t : IsReplied cfg s (request.Alive g) reply fate s')
    → active_row g.name s.names ≡ None → IsOwned cfg s → map.len s.connections ≤ cfg.known_max → IsRegistered s g t.slot reply fate s'

-- The entry may end the connection in `slot`, or the registration of any name.
abbrev pub MayEnd : ℕ → Entry → Type 0
MayEnd slot (Connected local other) = ⊥
MayEnd slot (Piece other piece reply fate) = reply ≡ codes "STOPPED"
MayEnd slot (Closed other) = other ≡ slot
MayEnd slot (Faulted other) = other ≡ slot
MayEnd slot (Late other fate) = ⊥

abbrev pub NoneEnds : ℕ → List Entry → Type 0
NoneEnds slot es = All (λ e. MayEnd slot e → ⊥) es

-- An active name keeps its registration until its connection ends or any name is stopped.
abbrev pub NamesStay : Type 0
NamesStay =
    (cfg : Configuration) (es : List Entry) (s s' : State) (name : List ℕ) (row : Row) → Run cfg s es s'
    → active_row name s.names ≡ Some row → NoneEnds row.slot es → active_row name s'.names ≡ Some row

-- Until then, every lookup of a registered name finds its registration.
abbrev pub RegisteredAreFound : Type 0
RegisteredAreFound =
    (cfg : Configuration) (es : List Entry) (s first last s' : State) (g : Node) (reply : List ℕ)
    (t : IsReplied cfg s (request.Alive g) reply Stay first) (asker : ℕ) (connection : Connection) (body answer : List ℕ)
    → Run cfg first es last → NoneEnds t.slot es → Completes cfg last asker connection body answer s'
    → Spells body (request.Port g.name) → answer ≡ port2_reply (Some g)

-- Until then, every list of names has the line of a registered name.
abbrev pub RegisteredAreListed : Type 0
RegisteredAreListed =
    (cfg : Configuration) (es : List Entry) (s first last s' : State) (g : Node) (reply : List ℕ)
    (t : IsReplied cfg s (request.Alive g) reply Stay first) (asker : ℕ) (connection : Connection) (body answer : List ℕ)
    → Run cfg first es last → NoneEnds t.slot es → Completes cfg last asker connection body answer s' → Spells body request.Names
    → (before : List ℕ) × (after : List ℕ) × (answer ≡ before ++ names_line (record { name = g.name; port = g.port }) ++ after)

-- Until then, every other registration of the name is refused.
abbrev pub RegisteredAreAlone : Type 0
RegisteredAreAlone =
    (cfg : Configuration) (es : List Entry) (s first last s' : State) (g other : Node) (reply answer : List ℕ) (fate : Fate)
    (t : IsReplied cfg s (request.Alive g) reply Stay first) → Run cfg first es last → NoneEnds t.slot es
    → IsReplied cfg last (request.Alive other) answer fate s' → other.name ≡ g.name → IsRefused last (refusal other.high 1) answer fate s'

-- ---- how a name leaves

-- `name` is not active in `after`, and every other active name is unchanged.
pub record Retires (name : List ℕ) (names after : Names) : Type 0 where
  pub gone : active_row name after ≡ None
  pub others : (other : List ℕ) → same_name name other ≡ false → active_row other after ≡ active_row other names

-- A close or a fault of a connection makes its name inactive and no other.
abbrev pub EndsRetire : Type 0
EndsRetire =
    (cfg : Configuration) (s s' : State) (name : List ℕ) (row : Row) (e : Entry) → IsOwned cfg s → Step cfg s e s'
    → (e ≡ Closed row.slot) ⊎ (e ≡ Faulted row.slot) → active_row name s.names ≡ Some row → Retires name s.names s'.names

-- If the checks are relaxed, STOP makes the name that it asks for inactive and no other.
abbrev pub StopsRetire : Type 0
StopsRetire =
    (cfg : Configuration) (s s' : State) (name : List ℕ) (row : Row) (reply : List ℕ) (fate : Fate) → IsOwned cfg s → cfg.relaxed ≡ true
    → IsReplied cfg s (request.Stop name) reply fate s' → active_row name s.names ≡ Some row
    → (reply ≡ codes "STOPPED") × (fate ≡ Close) × Retires name s.names s'.names

-- No transition of this run registers the name.
abbrev pub NoneRegisters : (name : List ℕ) (cfg : Configuration) (es : List Entry) (s s' : State) → Run cfg s es s' → Type 0
NoneRegisters name cfg [] s s' run = Unit {0}
NoneRegisters name cfg (e ∷ es) s s' run =
    ((g : Node) (reply : List ℕ) → IsReplied cfg s (request.Alive g) reply Stay run.0 → g.name ≢ name)
    × NoneRegisters name cfg es run.0 s' run.2

-- A lookup finds no name that is not active, until the name is registered.
abbrev pub AbsentNamesAreNotFound : Type 0
AbsentNamesAreNotFound =
    (cfg : Configuration) (es : List Entry) (s last s' : State) (name : List ℕ) (asker : ℕ) (connection : Connection)
    (body answer : List ℕ) (run : Run cfg s es last) → active_row name s.names ≡ None → NoneRegisters name cfg es s last run
    → Completes cfg last asker connection body answer s' → Spells body (request.Port name) → answer ≡ port2_reply None

-- ---- how requests arrive, and what restarts get

-- A chunk that completes no request is kept: there is no reply, the connection waits with all its bytes, and nothing else changes.
abbrev pub IncompleteRequestsWait : Type 0
IncompleteRequestsWait =
    (cfg : Configuration) (s s' : State) (slot : ℕ) (connection : Connection) (received piece reply : List ℕ) (fate : Fate)
    → map.get s.connections slot ≡ Some connection → connection.stage ≡ Waiting received
    → first_request (received ++ piece) ≡ More → Says cfg s slot piece reply fate s'
    → (reply ≡ []) × (fate ≡ Stay)
    × (s' ≡ with_connection s slot (record { local = connection.local; stage = Waiting (received ++ piece) }))

-- The creation of a name whose connection ends is remembered for it, so that it cannot be its next one.
abbrev pub LeaversAreRemembered : Type 0
LeaversAreRemembered =
    (cfg : Configuration) (s s' : State) (name : List ℕ) (row : Row) (e : Entry) → IsOwned cfg s → Step cfg s e s'
    → (e ≡ Closed row.slot) ⊎ (e ≡ Faulted row.slot) → active_row name s.names ≡ Some row
    → remembered name s'.names ≡ Some row.creation

-- The connection of a chunk stays and gets a reply: only a registration does that.
abbrev pub is_registration : Entry → Bool
is_registration (Piece slot piece reply Stay) = nat_lt 0 (length reply)
is_registration e = false

abbrev pub registrations : List Entry → ℕ
registrations es = length (filter is_registration es)

-- A name whose connection ends gets another creation at its next registration. The names that are active after that end and the
-- registrations until the next must together be fewer than the names that may be known.
abbrev pub RestartsGetAnother : Type 0
RestartsGetAnother =
    (cfg : Configuration) (es : List Entry) (s first last s' : State) (name : List ℕ) (row other : Row) (e next : Entry)
    → IsOwned cfg s → Step cfg s e first → (e ≡ Closed row.slot) ⊎ (e ≡ Faulted row.slot) → active_row name s.names ≡ Some row
    → (run : Run cfg first es last) → NoneRegisters name cfg es first last run
    → length first.names.active + registrations es < cfg.known_max
    → Step cfg last next s' → active_row name s'.names ≡ Some other → other.creation ≢ row.creation
