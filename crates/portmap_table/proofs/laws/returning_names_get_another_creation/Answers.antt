use Rattle.portmap_table.proofs.NameLaws.{last_creations_are_remembered}
use Rattle.portmap_table.proofs.laws.returning_names_get_another_creation.Goals as goal

pub returns-clause-remembered : goal.returns-clause-remembered
returns-clause-remembered c = last_creations_are_remembered
