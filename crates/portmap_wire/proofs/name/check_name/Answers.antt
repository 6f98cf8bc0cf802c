use Rattle.std.proofs.Common.{rules}
use Rattle.portmap_wire.proofs.NameLemmas.{no_control, is_name}
use Rattle.portmap_wire.proofs.name.check_name.Goals as goal

pub returns-in-Some-clause-name : goal.returns-in-Some-clause-name
returns-in-Some-clause-name c = no_control c.args.bytes.now c.in-Some.at c.in-Some.ensures

pub returns-in-None-clause-name : goal.returns-in-None-clause-name
returns-in-None-clause-name c = search (rules, is_name)
