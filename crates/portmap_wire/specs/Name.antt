-- The bytes of a node's name. Profile: the User's Guide states neither a limit nor the bytes.
use Rattle.std.specs.Prelude.{ℕ, Bool, ◌≢◌, ◌<◌, ◌≤◌, List, length, All, nat_lt, ◌==◌, ◌||◌}
use Rattle.portmap_wire.specs.declared.name.TheConstants.{NAME_MOST}

-- An ASCII control character, which no name contains.
abbrev pub is_control : ℕ → Bool
is_control b = nat_lt b 32 || (b == 127)

-- A byte that a name may contain: printable ASCII, or 128 to 255.
abbrev pub IsNameByte : ℕ → Type 0
IsNameByte b = (32 ≤ b) × (b ≢ 127) × (b < 256)

-- A name has 1 to `NAME_MOST` bytes, none of them a control character.
pub record IsName (bytes : List ℕ) : Type 0 where
  pub some : 0 < length bytes
  pub short : length bytes ≤ NAME_MOST
  pub each : All IsNameByte bytes
