use Rattle.std.proofs.Common.{rules}
use Rattle.portmap_wire.proofs.AnswerLaws.{look_up_found}
use Rattle.portmap_wire.proofs.reply_reading.read_port2.Goals as goal

pub returns-clause-found : goal.returns-clause-found
returns-clause-found c = search (rules, look_up_found)
