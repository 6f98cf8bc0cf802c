-- The decision whether a peer is on this host. epmd(1): only local nodes may register. Profile: the decision by
-- addresses.
use Rattle.std.specs.Cmp.Lexicographic.{pointwise}
use Rattle.std.specs.Prelude.{ℕ, Bool, List, [], ◌∷◌, ◌==◌, ◌||◌, take, drop, if◌then◌else◌}
use Rattle.portmap_core.specs.declared.locality.Ip.{Ip, TheVariants.{V4, V6}}

-- The first twelve bytes of `::ffff:a.b.c.d`, an IPv4 address mapped to IPv6.
abbrev pub mapped_prefix : List ℕ
mapped_prefix = 0 ∷ 0 ∷ 0 ∷ 0 ∷ 0 ∷ 0 ∷ 0 ∷ 0 ∷ 0 ∷ 0 ∷ 255 ∷ 255 ∷ []

-- The bytes of an address: 4 of an IPv4 address, mapped to IPv6 or not, otherwise 16.
abbrev pub plain : Ip → List ℕ
plain (V4 bytes) = bytes
plain (V6 bytes) = if pointwise ◌==◌ (take 12 bytes) mapped_prefix then drop 12 bytes else bytes

abbrev pub loopback6 : List ℕ
loopback6 = 0 ∷ 0 ∷ 0 ∷ 0 ∷ 0 ∷ 0 ∷ 0 ∷ 0 ∷ 0 ∷ 0 ∷ 0 ∷ 0 ∷ 0 ∷ 0 ∷ 0 ∷ 1 ∷ []

-- An address in 127.0.0.0/8, or ::1.
abbrev pub is_loopback : List ℕ → Bool
is_loopback (a ∷ b ∷ c ∷ d ∷ []) = a == 127
is_loopback bytes = pointwise ◌==◌ bytes loopback6

-- The peer's address is a loopback address or the connection's own.
abbrev pub is_local_to : Ip → Ip → Bool
is_local_to peer own = is_loopback (plain peer) || pointwise ◌==◌ (plain peer) (plain own)
