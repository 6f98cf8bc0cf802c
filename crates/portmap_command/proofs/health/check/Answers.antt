use Rattle.std.proofs.Common.{[], ◌∷◌, false, rules, true}
use Rattle.portmap_command.specs.declared.health.Step.{TheVariants.{Close, LookUp, Register}}
use Rattle.portmap_command.specs.declared.health.TheConstants.{TRIES}
use Rattle.portmap_command.proofs.Checking.{continues, fails, ends}
use Rattle.portmap_command.proofs.health.check.Goals as goal

pub returns-in_err-pass-3 : goal.returns-in_err-pass-3
returns-in_err-pass-3 g c =
    let steps = g.P.Checked.steps in
    let now = steps c.pass-3.new.peer in
    let result = c.from_residual-in_err-pass-3.result in
    continues (Register, true, TRIES) ((LookUp, true, 1) ∷ (Close, true, 1) ∷ (LookUp, false, TRIES) ∷ []) c.pass.result result
    (steps c.args.peer.now) (steps c.pass.new.peer) now c.in_ok-pass.was c.pass.ensures
    (continues (LookUp, true, 1) ((Close, true, 1) ∷ (LookUp, false, TRIES) ∷ []) c.pass-2.result result
    (steps c.pass.new.peer) (steps c.pass-2.new.peer) now c.in_ok-pass-2.was c.pass-2.ensures
    (fails (Close, true, 1) ((LookUp, false, TRIES) ∷ []) c.pass-3.result result c.in_err-pass-3.field-0.0
    (steps c.pass-2.new.peer) now c.in_err-pass-3.was (search rules) c.pass-3.ensures))

pub returns : goal.returns
returns g c =
    let steps = g.P.Checked.steps in
    let now = steps c.pass-4.new.peer in
    let result = c.pass-4.result in
    continues (Register, true, TRIES) ((LookUp, true, 1) ∷ (Close, true, 1) ∷ (LookUp, false, TRIES) ∷ []) c.pass.result result
    (steps c.args.peer.now) (steps c.pass.new.peer) now c.in_ok-pass.was c.pass.ensures
    (continues (LookUp, true, 1) ((Close, true, 1) ∷ (LookUp, false, TRIES) ∷ []) c.pass-2.result result
    (steps c.pass.new.peer) (steps c.pass-2.new.peer) now c.in_ok-pass-2.was c.pass-2.ensures
    (continues (Close, true, 1) ((LookUp, false, TRIES) ∷ []) c.pass-3.result result
    (steps c.pass-2.new.peer) (steps c.pass-3.new.peer) now c.in_ok-pass-3.was c.pass-3.ensures
    (ends (LookUp, false, TRIES) result (steps c.pass-3.new.peer) now c.pass-4.ensures)))
