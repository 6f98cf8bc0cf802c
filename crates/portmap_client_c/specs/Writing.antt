-- Requests in the caller's buffer.
use Rattle.std.specs.Prelude.{◌≡◌, ◌≢◌, ◌↔◌, ℕ, ◌+◌, ◌<◌, ◌≤◌, ℤ, nat_lt, if◌then◌else◌, List, ◌++◌, length, drop}
use Rattle.std.specs.Prelude.{Result, Ok, Err, IsOk, IfOk}
use Rattle.portmap_wire.specs.{List.names_reply, Node.Node, Request.sent, RequestReading.name_in}
use Rattle.portmap_wire.specs.{declared.list.Line.Line, declared.name.NameFault.NameFault}
use Rattle.portmap_wire.specs.declared.request.Request.{Request, TheVariants.Alive}
use Rattle.portmap_wire.specs.declared.request.TheConstants.{BODY_MOST}
use Rattle.portmap_client_c.specs.{Status.name_status, declared.node.EpmdNode.EpmdNode}
use Rattle.portmap_client_c.specs.declared.status.TheConstants.{EPMD_OK, EPMD_EXTRA_TOO_LONG, EPMD_BUFFER_TOO_SMALL}
use Rattle.portmap_client_c.specs.declared.status.TheConstants.{EPMD_NO_MEMORY}
use Rattle.portmap_client_c.specs.declared.writing.Unmade.{Unmade, TheVariants.{NoMemory, Refused}}

-- ---- the request

abbrev pub node_of : EpmdNode → List ℕ → List ℕ → Node
node_of n name extra = record {
  port = n.port;
  kind = n.kind;
  proto = n.protocol;
  high = n.highest;
  low = n.lowest;
  name = name;
  extra = extra;
}

-- The result for a name, or the status for which the bytes are not a name.
abbrev pub with_name : {X : Type 0} → (List ℕ → Result X ℤ) → Result (List ℕ) NameFault → Result X ℤ
with_name make (Ok name) = make name
with_name make (Err fault) = Err (name_status fault)

-- A request that is a name after its first byte.
abbrev pub named_said : (List ℕ → Request) → List ℕ → Result Request ℤ
named_said make bytes = with_name (λ name. Ok (make name)) (name_in bytes)

abbrev pub fitting : Node → Result Node ℤ
fitting g = if nat_lt BODY_MOST (13 + length g.name + length g.extra) then Err EPMD_EXTRA_TOO_LONG else Ok g

abbrev pub node_said : EpmdNode → List ℕ → List ℕ → Result Node ℤ
node_said n bytes extra = with_name (λ name. fitting (node_of n name extra)) (name_in bytes)

abbrev pub to_alive : Result Node ℤ → Result Request ℤ
to_alive (Ok g) = Ok (Alive g)
to_alive (Err fault) = Err fault

abbrev pub alive_said : EpmdNode → List ℕ → List ℕ → Result Request ℤ
alive_said n bytes extra = to_alive (node_said n bytes extra)

-- The value was made, or was refused with this status, or memory ran out. `size` is the number of bytes of the request as it is sent. A
-- refusal is never `EPMD_NO_MEMORY`.
abbrev pub MakesAs : {X : Type 0} → (X → ℕ → Type 0) → Result X Unmade → Result X ℤ → Type 0
MakesAs Takes (Ok x) said = said ≡ Ok x
MakesAs Takes (Err (Refused status)) said = (said ≡ Err status) × (status ≢ EPMD_NO_MEMORY)
MakesAs Takes (Err (NoMemory size)) said = IsOk said × IfOk said (λ x. Takes x size)

abbrev pub Makes : Result Request Unmade → Result Request ℤ → Type 0
Makes = MakesAs (λ request size. size ≡ length (sent request))

abbrev pub MakesNode : Result Node Unmade → Result Node ℤ → Type 0
MakesNode = MakesAs (λ g size. size ≡ length (sent (Alive g)))

-- A name, for a request with `beside` other bytes.
abbrev pub MakesName : ℕ → Result (List ℕ) Unmade → Result (List ℕ) NameFault → Type 0
MakesName beside made said = MakesAs (λ name size. size ≡ length name + beside) made (with_name (λ name. Ok name) said)

abbrev pub unmade_status : Unmade → ℤ
unmade_status (Refused status) = status
unmade_status (NoMemory size) = EPMD_NO_MEMORY

-- ---- the bytes that are written

-- The bytes are at the beginning of the buffer, or the buffer is unchanged. `size` is the number of bytes.
pub record Puts (bytes old new : List ℕ) (size : ℕ) (status : ℤ) : Type 0 where
  pub size_is : size ≡ length bytes
  pub whole : status ≡ EPMD_OK → new ≡ bytes ++ drop (length bytes) old
  pub small : (status ≡ EPMD_BUFFER_TOO_SMALL) ↔ (length old < length bytes)
  pub none : status ≢ EPMD_OK → new ≡ old
  pub no_other : status ≢ EPMD_OK → status ≢ EPMD_BUFFER_TOO_SMALL → status ≡ EPMD_NO_MEMORY

-- Memory ran out for `size` bytes. A buffer that is too small is reported first.
pub record LacksMemory (old : List ℕ) (size reported : ℕ) (status : ℤ) : Type 0 where
  pub size_is : reported ≡ size
  pub small : (status ≡ EPMD_BUFFER_TOO_SMALL) ↔ (length old < size)
  pub no_other : status ≢ EPMD_BUFFER_TOO_SMALL → status ≡ EPMD_NO_MEMORY

-- A list in a buffer, as a port mapper encodes it. A buffer that is too small is reported before a lack of memory. If memory runs out, the
-- size is 0.
pub record PutsList (port : ℕ) (lines : List Line) (old new : List ℕ) (size : ℕ) (status : ℤ) : Type 0 where
  pub puts : status ≢ EPMD_NO_MEMORY → Puts (names_reply port lines) old new size status
  pub room : status ≡ EPMD_NO_MEMORY → length (names_reply port lines) ≤ length old
  pub none : status ≡ EPMD_NO_MEMORY → (new ≡ old) × (size ≡ 0)

-- The request as it is sent, or the status for which there is no request.
abbrev pub Writes : Result Request ℤ → List ℕ → List ℕ → ℕ → ℤ → Type 0
Writes (Ok request) old new size status = Puts (sent request) old new size status
Writes (Err fault) old new size status = (status ≡ fault) × (new ≡ old) × (size ≡ 0)
