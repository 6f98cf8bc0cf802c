-- A table of names with its limit and the counter for wide creations.
use Rattle.std.specs.Prelude.{◌≡◌, ℕ, List, Result, Ok, Err, max, if◌then◌else◌}
use Rattle.portmap_wire.specs.Node.{Node}
use Rattle.portmap_table.specs.Creation.{choice, counter_after}
use Rattle.portmap_table.specs.Rows.{Names, no_names, is_active, is_full_for, remembered, registered, with_room}
use Rattle.portmap_table.specs.{declared.creation.TheConstants.COUNTER_LEAST, declared.table.RegFault.RegFault}
use Rattle.portmap_table.specs.declared.table.RegFault.TheVariants as fault

pub record TableState : Type 0 where
  pub names : Names
  pub known_max : ℕ
  pub counter : ℕ

abbrev pub new_table : ℕ → ℕ → TableState
new_table known_max first = record { names = no_names; known_max = known_max; counter = max first COUNTER_LEAST }

abbrev pub with_names : TableState → Names → TableState
with_names t names = record { names = names; known_max = t.known_max; counter = t.counter }

-- The creation that a name would get, or the reason for a refusal.
abbrev pub offered : TableState → List ℕ → ℕ → Result ℕ RegFault
offered t name high =
    if is_active name t.names then Err fault.Taken
    else if is_full_for t.known_max name t.names then Err fault.NoRoom
    else Ok (choice t.counter high (remembered name t.names))

-- The table after a registration with this creation.
abbrev pub with_registration : TableState → Node → ℕ → ℕ → TableState
with_registration t reg slot creation = record {
  names = registered reg creation slot (with_room t.known_max reg.name t.names);
  known_max = t.known_max;
  counter = counter_after t.counter reg.high creation;
}

-- The result is `said` or `NoMemory`.
abbrev pub GivesOffer : Result ℕ RegFault → Result ℕ RegFault → Type 0
GivesOffer (Ok c) said = said ≡ Ok c
GivesOffer (Err fault.NoMemory) said = Unit {0}
GivesOffer (Err fault.Taken) said = said ≡ Err fault.Taken
GivesOffer (Err fault.NoRoom) said = said ≡ Err fault.NoRoom
