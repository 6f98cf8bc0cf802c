use Rattle.std.proofs.Common.{Ok, Err, ap, sym, ◌∙◌}
use Rattle.portmap_wire.specs.ReplyReading.{alive_answer}
use Rattle.portmap_client.specs.{Fault.of_reply, declared.fault.AnswerFault.TheVariants.Refused}
use Rattle.portmap_client.proofs.{Answering.creation_fault, Calling.{gave_up, says, says_fault}}
use Rattle.portmap_client.proofs.registration.register.Goals as goal

pub returns-in_err-answer : goal.returns-in_err-answer
returns-in_err-answer g c = gave_up c.from_residual-in_err-answer.result
    (c.deref.ensures.value ∙ c.in_ok-request.ensures.text) c.in_err-answer.ensures c.from_residual-in_err-answer.ensures.1

pub returns-in_err-creation : goal.returns-in_err-creation
returns-in_err-creation g c =
    let fault = c.in_err-creation.field-0.0 in
    says_fault (of_reply fault) c.from_residual-in_err-creation.result
    (c.deref.ensures.value ∙ c.in_ok-request.ensures.text) c.in_ok-answer.ensures c.from_residual-in_err-creation.ensures.1
    (λ read is. creation_fault read c.deref-2.result.now fault (c.deref-2.ensures.value ∙ is) c.in_err-creation.ensures)

pub returns-in-Given : goal.returns-in-Given
returns-in-Given g c = says (Ok (Ok c.in-Given.creation)) (c.deref.ensures.value ∙ c.in_ok-request.ensures.text) c.in_ok-answer.ensures
    (λ read is. ap alive_answer (sym (c.deref-2.ensures.value ∙ is)) ∙ sym c.in_ok-creation.ensures ∙ ap Ok c.in-Given.is)

pub returns : goal.returns
returns g c = says (Ok (Err (Refused c.in-Refused.code))) (c.deref.ensures.value ∙ c.in_ok-request.ensures.text) c.in_ok-answer.ensures
    (λ read is. ap alive_answer (sym (c.deref-2.ensures.value ∙ is)) ∙ sym c.in_ok-creation.ensures ∙ ap Ok c.in-Refused.is)
