use Rattle.std.proofs.Common.{◌∙◌}
use Rattle.portmap_client.specs.Fault.{of_reply}
use Rattle.portmap_client.proofs.{Answering.found_fault, Calling.says_fault}
use Rattle.portmap_client.proofs.query.lookup.Goals as goal

pub returns-in_err-read_port2 : goal.returns-in_err-read_port2
returns-in_err-read_port2 g c =
    let fault = c.in_err-read_port2.field-0.0 in
    says_fault (of_reply fault) c.from_residual-in_err-read_port2.result
    (c.deref.ensures.value ∙ c.in_ok-request.ensures.text) c.in_ok-answer.ensures c.from_residual-in_err-read_port2.ensures.1
    (λ read is. found_fault read c.deref-2.result.now fault (c.deref-2.ensures.value ∙ is) c.in_err-read_port2.ensures.exact)
