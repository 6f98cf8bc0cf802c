-- The bytes of the replies. ERTS User's Guide, EPMD Protocol.
use Rattle.std.specs.Int.{w32, to_be_bytes}
use Rattle.std.specs.Prelude.{ℕ, Bool, List, [], ◌∷◌, Option, Some, None, nat_lt, if◌then◌else◌}
use Rattle.portmap_wire.specs.Node.{Node, fields, be2}
use Rattle.portmap_wire.specs.declared.reply_writing.TheConstants.{ALIVE2_X_RESP, ALIVE2_RESP, PORT2_RESP, WIDE_VERSION}

-- A number in four bytes, big-endian.
abbrev pub be4 : ℕ → List ℕ
be4 n = to_be_bytes w32 n

-- A node whose highest version is below `WIDE_VERSION` gets the reply with a creation of 2 bytes, any other node that
-- of 4.
abbrev pub is_short : ℕ → Bool
is_short high = nat_lt high WIDE_VERSION

-- ALIVE2_RESP for a node whose highest version is below `WIDE_VERSION`, otherwise ALIVE2_X_RESP.
abbrev pub alive_reply : ℕ → ℕ → ℕ → List ℕ
alive_reply high code creation = if is_short high then ALIVE2_RESP ∷ code ∷ be2 creation else ALIVE2_X_RESP ∷ code ∷ be4 creation

-- PORT2_RESP: result 0 and the registration, or result 1 for a name that is not active.
abbrev pub port2_reply : Option Node → List ℕ
port2_reply None = PORT2_RESP ∷ 1 ∷ []
port2_reply (Some g) = PORT2_RESP ∷ 0 ∷ fields g
