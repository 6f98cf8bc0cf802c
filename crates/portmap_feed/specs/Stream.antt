-- The first request of a byte stream. ERTS User's Guide, EPMD Protocol: its length, in two bytes and big-endian,
-- precedes each request.
use Rattle.std.specs.Prelude.{ℕ, ◌+◌, ◌*◌, List, [], ◌∷◌, length, take, nat_lt, ◌==◌, if◌then◌else◌, Option, Some, None}
use Rattle.portmap_wire.specs.declared.request.TheConstants.{BODY_MOST}

-- The framing of the first request: incomplete, a bad length, or its body.
pub data Framing : Type 0 where
  More : Framing
  Zero : Framing
  TooLarge : ℕ → Framing
  Whole : List ℕ → Framing

-- The framing if `behind` follows a length of `n`.
abbrev pub sight_behind : ℕ → List ℕ → Framing
sight_behind n behind =
    if n == 0 then Zero
    else if nat_lt BODY_MOST n then TooLarge n
    else if nat_lt (length behind) n then More
    else Whole (take n behind)

-- The framing of the first request in all bytes received.
unfoldable pub first_request : List ℕ → Framing
first_request [] = More
first_request (high ∷ []) = More
first_request (high ∷ low ∷ behind) = sight_behind (high * 256 + low) behind

-- The number of bytes expected after a length, 0 after a bad length.
abbrev pub awaited : ℕ → ℕ
awaited n = if nat_lt BODY_MOST n then 0 else n

-- The kept bytes: all until the length is known, then the length and at most the `awaited` bytes.
unfoldable pub kept : List ℕ → List ℕ
kept [] = []
kept (high ∷ []) = high ∷ []
kept (high ∷ low ∷ behind) = high ∷ low ∷ take (awaited (high * 256 + low)) behind

-- The reserved room, in bytes: for all bytes until the length is known, then for the length and the `awaited` bytes.
unfoldable pub room : List ℕ → ℕ
room [] = 0
room (high ∷ []) = 1
room (high ∷ low ∷ behind) = 2 + awaited (high * 256 + low)

abbrev pub body_in : Framing → Option (List ℕ)
body_in More = None
body_in Zero = None
body_in (TooLarge n) = None
body_in (Whole body) = Some body
