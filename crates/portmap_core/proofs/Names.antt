-- The plain lists of names after a registration.
use Rattle.std.specs.Prelude.{◌&&◌, ◌||◌, nat_le, find, position, is_some}
use Rattle.std.proofs.Common.{◌≡◌, ℕ, Bool, true, false, cond, List, [], ◌∷◌, ◌++◌, Option, Some, None, refl, rules}
use Rattle.portmap_table.specs.Rows.{Names, RetiredName, is_active, known_len, registered, with_room, without_oldest}
use Rattle.portmap_table.specs.declared.row.Row.{Row}
use Rattle.portmap_table.proofs.{First.{finds_none, no_index, none_at, none_found}, NameEntry.had_name}
use Rattle.portmap_core.specs.Names.{left_by}

pub enters : (known_max : ℕ) (names : Names) (row : Row) → is_active row.reg.name names ≡ false
    → record {
      active = names.active ++ row ∷ [];
      retired = left_by (position (had_name row.reg.name) names.retired) (nat_le known_max (known_len names)) names.retired;
    }
    ≡ registered row.reg row.creation row.slot (with_room known_max row.reg.name names)
enters known_max names row inactive = by (position had names.retired) refl
  where
    had : RetiredName → Bool
    had = had_name row.reg.name

    many : Bool
    many = nat_le known_max (known_len names)

    entered : List RetiredName → Names
    entered retired = record { active = names.active ++ row ∷ []; retired = retired }

    enter : Names → Names
    enter = registered row.reg row.creation row.slot

    new : (b : Bool) → position had names.retired ≡ None
        → entered (left_by None b names.retired) ≡ enter (cond b (without_oldest names) names)
    new b e = search rules

    known : (at : ℕ) → position had names.retired ≡ Some at → (b : Bool) → is_some (find had names.retired) ≡ b → b ≡ true
    known at e b f = search (rules, no_index, none_found)

    by : (o : Option ℕ) → position had names.retired ≡ o
        → entered (left_by o many names.retired) ≡ enter (with_room known_max row.reg.name names)
    by o e = search (rules, finds_none, known, none_at)
