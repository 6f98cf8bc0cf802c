use Rattle.portmap_table.proofs.NameLaws.{others_stay_at_registration, others_stay_at_retirement}
use Rattle.portmap_table.proofs.laws.other_names_stay.Goals as goal

pub returns : goal.returns
returns c = record { registered = others_stay_at_registration; retired = others_stay_at_retirement }
