use Rattle.portmap_core.proofs.LocalPeers.{active_names_are_taken, new_names_want_room}
use Rattle.portmap_core.proofs.laws.refusals_give_the_right_result.Goals as goal

pub returns : goal.returns
returns c = record { taken = active_names_are_taken; full = new_names_want_room }
