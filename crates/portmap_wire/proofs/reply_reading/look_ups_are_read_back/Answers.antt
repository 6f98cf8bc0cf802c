use Rattle.portmap_wire.proofs.AnswerLaws.{look_ups}
use Rattle.portmap_wire.proofs.reply_reading.look_ups_are_read_back.Goals as goal

pub returns : goal.returns
returns c = look_ups
