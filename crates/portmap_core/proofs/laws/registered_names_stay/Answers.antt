use Rattle.portmap_core.proofs.Registered.{free_names_register, names_stay, registered_are_alone, registered_are_found}
use Rattle.portmap_core.proofs.Registered.{registered_are_listed}
use Rattle.portmap_core.proofs.laws.registered_names_stay.Goals as goal

pub returns : goal.returns
returns c = record {
  free = free_names_register;
  stay = names_stay;
  found = registered_are_found;
  listed = registered_are_listed;
  alone = registered_are_alone;
}
