use Rattle.portmap_table.proofs.NameLaws.{registered_names_are_active, names_outlive_connections}
use Rattle.portmap_table.proofs.laws.names_outlive_connections.Goals as goal

pub returns : goal.returns
returns c = record { registered = registered_names_are_active; retired = names_outlive_connections }
