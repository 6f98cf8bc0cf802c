use Rattle.portmap_core.proofs.Shown.{active_names_are_found, active_names_are_listed, lists_are_exact, lists_are_read_back}
use Rattle.portmap_core.proofs.laws.active_names_are_shown.Goals as goal

pub returns : goal.returns
returns c = record { found = active_names_are_found; listed = active_names_are_listed; exact = lists_are_exact; back = lists_are_read_back }
