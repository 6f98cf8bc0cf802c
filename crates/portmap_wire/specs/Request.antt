-- The bytes of each request. ERTS User's Guide, EPMD Protocol. A body that spells no request is malformed.
use Rattle.std.specs.Prelude.{◌≡◌, List, ℕ, [], ◌∷◌, ◌++◌, length}
use Rattle.portmap_wire.specs.{Name.IsName, Node.{IsNode, fields, be2}}
use Rattle.portmap_wire.specs.declared.request.Request.{Request, TheVariants.{Alive, Dump, Kill, Names, Port, Stop}}
use Rattle.portmap_wire.specs.declared.request.TheConstants.{ALIVE2_REQ, PORT_PLEASE2_REQ, NAMES_REQ, DUMP_REQ}
use Rattle.portmap_wire.specs.declared.request.TheConstants.{KILL_REQ, STOP_REQ}

-- The body of a request: its tag, then its fields.
abbrev pub body_of : Request → List ℕ
body_of (Alive g) = ALIVE2_REQ ∷ fields g
body_of (Port name) = PORT_PLEASE2_REQ ∷ name
body_of Names = NAMES_REQ ∷ []
body_of Dump = DUMP_REQ ∷ []
body_of Kill = KILL_REQ ∷ []
body_of (Stop name) = STOP_REQ ∷ name

-- The name or the registration in the request is valid.
abbrev pub IsRequest : Request → Type 0
IsRequest (Alive g) = IsNode g
IsRequest (Port name) = IsName name
IsRequest Names = Unit {0}
IsRequest Dump = Unit {0}
IsRequest Kill = Unit {0}
IsRequest (Stop name) = IsName name

pub record Spells (body : List ℕ) (request : Request) : Type 0 where
  pub request_is : IsRequest request
  pub text : body ≡ body_of request

-- No request has this body.
abbrev pub IsMalformed : List ℕ → Type 0
IsMalformed body = (request : Request) → Spells body request → ⊥

-- A request on the wire: the length of its body in two bytes, then the body.
abbrev pub sent : Request → List ℕ
sent request = be2 (length (body_of request)) ++ body_of request

-- A body spells at most one request, and a request has exactly one body.
abbrev pub SpellsOneRequest : Type 0
SpellsOneRequest = (body : List ℕ) (a b : Request) → Spells body a → Spells body b → a ≡ b

abbrev pub HasOneBody : Type 0
HasOneBody = (a b : List ℕ) (request : Request) → Spells a request → Spells b request → a ≡ b
