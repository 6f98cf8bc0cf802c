use Rattle.portmap_core.proofs.Leaving.{absent_names_are_not_found, ends_retire, stops_retire}
use Rattle.portmap_core.proofs.laws.names_that_left_are_not_found.Goals as goal

pub returns : goal.returns
returns c = record { ends = ends_retire; stops = stops_retire; absent = absent_names_are_not_found }
