use Rattle.std.proofs.Common.{rules}
use Rattle.portmap_wire.proofs.LineLemmas.{strange_uncut, strange_cut, one_more}
use Rattle.portmap_wire.proofs.list_reading.collect_lines.Goals as goal

pub returns-in_default-clause-fault : goal.returns-in_default-clause-fault
returns-in_default-clause-fault c = search (rules, strange_uncut)

pub returns-in_default-2-clause-fault : goal.returns-in_default-2-clause-fault
returns-in_default-2-clause-fault c = search (rules, strange_cut)

pub loop-rest-preserved : goal.loop-rest-preserved
loop-rest-preserved c = search (rules, one_more)
