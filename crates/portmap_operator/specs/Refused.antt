-- Registrations that are refused since their names are in use, and the notice of them: profile.
use Rattle.std.specs.Fmt.{decimal}
use Rattle.std.specs.Prelude.{ℕ, ◌==◌, List, [], ◌++◌, codes, Option, Some, None, if◌then◌else◌}
use Rattle.portmap_core.specs.{Entry.{Entry, Piece}, Registering.Registers}
use Rattle.portmap_operator.specs.Showing.{shown}

-- The entry is a chunk that asks to register this name.
abbrev pub AsksToRegister : Entry → List ℕ → Type 0
AsksToRegister (Piece slot bytes reply fate) name = Registers bytes name
AsksToRegister entry name = ⊥

-- The name in the text of a notice, if it is known.
abbrev pub named : Option (List ℕ) → List ℕ
named None = codes "a name"
named (Some name) = codes "name " ++ shown name

-- The text for this many further refusals.
abbrev pub and_more : ℕ → List ℕ
and_more more = if more == 0 then [] else codes ", and " ++ decimal more ++ codes " more"

-- The line that names the first refused name and says how many more there were.
abbrev pub in_use_line : Option (List ℕ) → ℕ → List ℕ
in_use_line name more =
    codes "epmd: " ++ named name ++ codes " is in use" ++ and_more more ++ codes "\n"
