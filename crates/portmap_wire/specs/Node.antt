-- The fields of a registration and their bytes. ERTS User's Guide, EPMD Protocol: "Register a Node in EPMD".
use Rattle.std.specs.{Cmp.Lexicographic.pointwise, Int.{w16, to_be_bytes}, Ordering.{on, eq_of_both}}
use Rattle.std.specs.Prelude.{ℕ, ◌+◌, ◌<◌, ◌≤◌, ◌^◌, List, [], ◌∷◌, ◌++◌, length, Bool, nat_eq}
use Rattle.portmap_wire.specs.{Name.IsName, declared.request.TheConstants.BODY_MOST}

-- PortNo, NodeType, Protocol, HighestVersion, LowestVersion, NodeName and Extra, in the order of the guide.
pub record Node : Type 0 where
  pub port : ℕ
  pub kind : ℕ
  pub proto : ℕ
  pub high : ℕ
  pub low : ℕ
  pub name : List ℕ
  pub extra : List ℕ

-- A number in two bytes, big-endian.
abbrev pub be2 : ℕ → List ℕ
be2 n = to_be_bytes w16 n

-- The fields in order. The name and the extra bytes each follow their length.
abbrev pub fields : Node → List ℕ
fields g = be2 g.port ++ (g.kind ∷ g.proto ∷ []) ++ be2 g.high ++ be2 g.low ++ be2 (length g.name) ++ g.name ++ be2 (length g.extra)
    ++ g.extra

-- Each field is in range, and a request of at most `BODY_MOST` bytes holds them all. Profile: that limit.
pub record IsNode (g : Node) : Type 0 where
  pub port : g.port < 2 ^ 16
  pub kind : g.kind < 2 ^ 8
  pub proto : g.proto < 2 ^ 8
  pub high : g.high < 2 ^ 16
  pub low : g.low < 2 ^ 16
  pub name : IsName g.name
  pub fits : 13 + length g.name + length g.extra ≤ BODY_MOST

-- Compares two registrations field by field.
abbrev pub are_same : Node → Node → Bool
are_same = eq_of_both (on (λ g. g.port) nat_eq)
    (eq_of_both (on (λ g. g.kind) nat_eq) (eq_of_both (on (λ g. g.proto) nat_eq)
    (eq_of_both (on (λ g. g.high) nat_eq) (eq_of_both (on (λ g. g.low) nat_eq)
    (eq_of_both (on (λ g. g.name) (pointwise nat_eq)) (on (λ g. g.extra) (pointwise nat_eq)))))))
