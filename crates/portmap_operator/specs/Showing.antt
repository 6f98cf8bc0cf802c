-- Printed bytes, which no terminal obeys: profile. The form is that of epmd-log.
use Rattle.std.specs.Prelude.{◌≡◌, ◌≢◌, ◌⊎◌, ℕ, zero, suc, ◌+◌, ◌-◌, ◌*◌, ◌/◌, ◌%◌, ◌^◌, ◌≤◌, ◌<◌, nat_le, nat_lt, ◌==◌, ◌&&◌, ◌||◌}
use Rattle.std.specs.Prelude.{Bool, if◌then◌else◌, List, [], ◌∷◌, ◌++◌, get_or, take, codes, All, Option, Some, None}
use Rattle.portmap_record.specs.Transcript.{hex_digits}

-- ---- characters of UTF-8

abbrev pub is_within : ℕ → ℕ → ℕ → Bool
is_within code least most = nat_le least code && nat_le code most

abbrev pub continues : ℕ → Bool
continues byte = is_within byte 128 191

-- The code needs three bytes and is not a surrogate.
abbrev pub is_of_three : ℕ → Bool
is_of_three code = is_within code 2048 55295 || is_within code 57344 65535

-- The code of the character whose shortest form these bytes begin with, and the number of its bytes.
abbrev pub character_of : ℕ → ℕ → ℕ → ℕ → Option (ℕ × ℕ)
character_of a b c d =
    let two = a % 32 * 64 + b % 64 in
    let three = a % 16 * 4096 + b % 64 * 64 + c % 64 in
    let four = a % 8 * 262144 + b % 64 * 4096 + c % 64 * 64 + d % 64 in
    if nat_lt a 128 then Some (a, 1)
    else if is_within a 192 223 && continues b && nat_le 128 two then Some (two, 2)
    else if is_within a 224 239 && continues b && continues c && is_of_three three then Some (three, 3)
    else if (is_within a 240 247 && continues b && continues c && continues d) && is_within four 65536 1114111 then Some (four, 4)
    else None

-- The first character of the bytes, read as if zeros followed them.
abbrev pub character : List ℕ → Option (ℕ × ℕ)
character bytes = character_of (get_or bytes 0 0) (get_or bytes 1 0) (get_or bytes 2 0) (get_or bytes 3 0)

-- Controls except the end of a line, soft hyphen, marks of direction, separators of lines and paragraphs, characters without width, and
-- tags.
abbrev pub is_hidden : ℕ → Bool
is_hidden code =
    is_within code 0 9 || is_within code 11 31 || is_within code 127 159 || code == 173 || code == 1564 || code == 6158
    || is_within code 8203 8207 || is_within code 8232 8238 || is_within code 8288 8303 || code == 65279 || is_within code 65529 65531
    || is_within code 917504 917759

-- ---- printed text

-- The escape `\xNN`, `\uNNNN` or `\U00NNNNNN`.
abbrev pub escape : ℕ → List ℕ
escape code =
    if nat_lt code 256 then codes "\\x" ++ hex_digits code
    else if nat_lt code 65536 then codes "\\u" ++ hex_digits (code / 256 % 256) ++ hex_digits (code % 256)
    else codes "\\U00" ++ hex_digits (code / 65536) ++ hex_digits (code / 256 % 256) ++ hex_digits (code % 256)

-- The text for the first character, or for the first byte if no character begins there.
abbrev pub front_of : List ℕ → Option (ℕ × ℕ) → List ℕ
front_of bytes None = escape (get_or bytes 0 0)
front_of bytes (Some found) = if is_hidden found.0 then escape found.0 else take found.1 bytes

abbrev pub front : List ℕ → List ℕ
front bytes = front_of bytes (character bytes)

-- The number of further bytes of the first character.
abbrev pub more_of : Option (ℕ × ℕ) → ℕ
more_of None = 0
more_of (Some found) = found.1 - 1

abbrev pub more : List ℕ → ℕ
more bytes = more_of (character bytes)

-- The text for all bytes after the first `count`, which are printed already.
abbrev pub shown_behind : ℕ → List ℕ → List ℕ
shown_behind count [] = []
shown_behind zero (byte ∷ bytes) = front (byte ∷ bytes) ++ shown_behind (more (byte ∷ bytes)) bytes
shown_behind (suc count) (byte ∷ bytes) = shown_behind count bytes

abbrev pub shown : List ℕ → List ℕ
shown bytes = shown_behind 0 bytes

-- ---- laws

-- The byte is the end of a line, or printable ASCII.
abbrev pub IsPlain : ℕ → Type 0
IsPlain byte = (byte ≡ 10) ⊎ ((32 ≤ byte) × (byte < 127))

abbrev pub PlainTextStays : Type 0
PlainTextStays = (text : List ℕ) → All IsPlain text → shown text ≡ text

-- The byte is not an ASCII control, except the end of a line.
abbrev pub IsNoControl : ℕ → Type 0
IsNoControl byte = (byte ≡ 10) ⊎ ((32 ≤ byte) × (byte ≢ 127))

abbrev pub ControlsAreEscaped : Type 0
ControlsAreEscaped = (bytes : List ℕ) → All (λ byte. byte < 2 ^ 8) bytes → All IsNoControl (shown bytes)
