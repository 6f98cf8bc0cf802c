use Rattle.std.proofs.{Common.{ℕ, List, Option, Vec, Global, Err, ap, subst}, lemmas.Result.err_from_is_err_and}
use Rattle.portmap_core.specs.declared.event.Fate.{Fate}
use Rattle.portmap_link.specs.{Asking.{Devices, devices}, Once.{HearsReply, WritesReply}}
use Rattle.portmap_link.proofs.Replying.{did_part}
use Rattle.portmap_link.proofs.single.once.Goals as goal

pub returns-in_err-write_reply-clause-did : goal.returns-in_err-write_reply-clause-did
returns-in_err-write_reply-clause-did g c =
    let old : Devices = devices g.R.Device.left g.W.Device.held g.R.Device.pulls g.W.Device.puts c.args.input.now c.args.output.now in
    let new : Devices =
    devices g.R.Device.left g.W.Device.held g.R.Device.pulls g.W.Device.puts c.hear.new.input c.write_reply.new.output in
    let heard = subst (λ (o : Option (Vec ℕ Global × Fate)).
    HearsReply c.args.config old.left new.left old.pulls new.pulls o) c.in-Some.is c.in_ok-reply.ensures.heard in
    let outcome = subst (λ (reply : List ℕ). WritesReply reply old.held new.held
    (Err c.in_err-write_reply.field-0.0)) c.deref.ensures.value c.in_err-write_reply.ensures.outcome in
    let p = err_from_is_err_and c.from_residual-in_err-write_reply.result c.from_residual-in_err-write_reply.ensures.1 in
    rw (p.1, p.2) (did_part c.args.config old new c.in-Some.reply.items c.in-Some.fate c.in_err-write_reply.field-0.0 heard outcome
    (λ sent e. c.in_err-write_reply.ensures.due sent (ap Err e)))
