use Rattle.std.proofs.{Common.arith, lemmas.Grind.common_steps}
use Rattle.portmap_wire.proofs.LineLemmas.{cut_at, not_cut}
use Rattle.portmap_wire.proofs.list_reading.cut_line.Goals as goal

pub returns-in-Some-clause-found : goal.returns-in-Some-clause-found
returns-in-Some-clause-found c = grind (arith, common_steps, cut_at)

pub returns-in-None-clause-none : goal.returns-in-None-clause-none
returns-in-None-clause-none c = λ e. not_cut c.args.text.now c.in-None.ensures
