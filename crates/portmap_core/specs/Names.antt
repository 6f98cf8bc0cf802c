-- The retired names of a plain list after a registration.
use Rattle.std.specs.Prelude.{ℕ, Bool, true, false, List, drop, remove, Option, Some, None}

-- A retired name is removed. A new name removes the name that was retired longest ago, if the limit is reached.
abbrev pub left_by : {X : Type 0} → Option ℕ → Bool → List X → List X
left_by (Some at) full names = remove names at
left_by None true names = drop 1 names
left_by None false names = names
