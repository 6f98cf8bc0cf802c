use Rattle.std.specs.Prelude.{Result}
use Rattle.std.proofs.Common.{Option, refl, sym, subst}
use Rattle.portmap_wire.specs.{Node.Node, declared.reply_reading.ReplyFault.ReplyFault}
use Rattle.portmap_client_c.specs.{Answers.ReportsFound, declared.status.TheConstants.EPMD_OK}
use Rattle.portmap_client_c.proofs.Offsets.{found_in}
use Rattle.portmap_client_c.proofs.answers.epmd_read_port2.Goals as goal

pub returns-in-Ok-Some-clause-reported : goal.returns-in-Ok-Some-clause-reported
returns-in-Ok-Some-clause-reported c =
    let said = rw c.in-Ok-Some.field-0-is at c.in-Ok-Some.ensures in
    λ _. subst (λ (answer : Result (Option Node) ReplyFault).
    ReportsFound c.args.bytes.now answer c.args.found.now c.found_at.result EPMD_OK) (sym said.exact)
    (refl, found_in c.args.bytes.now c.in-Ok-Some.reg c.found_at.result said.found c.found_at.ensures)
