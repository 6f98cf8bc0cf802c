use Rattle.std.proofs.Common.{◌≡◌, ap, sym, ◌∙◌, rules}
use Rattle.std.specs.FinMap as map
use Rattle.portmap_core.specs.{Connections.{at_stage, stopped_in}, Held.stage_held, Serving.Served}
use Rattle.portmap_core.specs.{State.{Machine, state_of}, Step.halted_by}
use Rattle.portmap_core.specs.declared.connection.Stage.{Stage, TheVariants.Waiting}
use Rattle.portmap_core.proofs.{Steps.{restores, says_done, says_holding, says_next, settles}, Waits.WaitsAt}
use Rattle.portmap_core.proofs.live.Live.piece.Goals as goal

pub returns-in-Holding-clause-ok : goal.returns-in-Holding-clause-ok
returns-in-Holding-clause-ok c =
    let i = c.self.inside in
    rw (← c.self.view_is)
    (says_holding i.config (state_of i.table.names i.connections i.halted) c.args.slot c.take-local.ensures.was c.in-Holding.is
    c.take-local.ensures.done c.put.ensures.open c.silent.ensures.reply c.silent.ensures.fate)

pub returns-in-Done-clause-ok : goal.returns-in-Done-clause-ok
returns-in-Done-clause-ok c = search (rules, says_done)

pub returns-in-Ok-clause-ok : goal.returns-in-Ok-clause-ok
returns-in-Ok-clause-ok c =
    let i = c.self.inside in
    let j = c.self-2.inside in
    let said = c.in-Ok.said in
    let settled = c.in-Ok.ensures.ok in
    let o : Served = record {
      reply = said.reply.items;
      fate = said.fate;
      stage = stage_held c.in-Ok.phase c.settle.new.feed;
      names = c.settle.new.self.state.names;
      stopped = settled.stopped;
    } in
    let written =
    settles i.connections c.args.slot c.take-local.ensures.was settled.stopped c.stage.result c.take-local.ensures.done
    (ap (λ (m : Machine). m.state.connections) c.self-2.view_is ∙ settled.connections) c.put-in-Ok.ensures.open
    ∙ ap (λ (x : Stage). map.insert (stopped_in settled.stopped i.connections) c.args.slot
    (at_stage c.take-local.result x)) c.stage.ensures in
    let names : j.table.names ≡ c.settle.new.self.state.names = ap (λ (m : Machine). m.state.names) c.self-2.view_is in
    let halted : c.halted_by-self-inside.result ≡ halted_by said.fate i.halted = c.halted_by-self-inside.ensures
    ∙ ap (λ (m : Machine). halted_by said.fate m.state.halted) c.self-2.view_is ∙ ap (halted_by said.fate) settled.halted in
    let waits : WaitsAt = record {
      config = i.config;
      state = state_of i.table.names i.connections i.halted;
      slot = c.args.slot;
      connection = c.take-local.result;
      received = c.in-Waiting.feed;
      is_open = c.take-local.ensures.was;
      stage = c.in-Waiting.is;
    } in
    rw (← c.self.view_is, names, halted) (says_next waits c.args.piece.now o settled.response written)

pub returns-in-Err-clause-err : goal.returns-in-Err-clause-err
returns-in-Err-clause-err c =
    let i = c.self.inside in
    let kept : Machine = record { config = i.config; state = state_of i.table.names c.take-local.new.self i.halted } in
    let same : c.settle.new.self ≡ kept = c.in-Err.ensures.err in
    let e = c.self-2.view_is ∙ same in
    let feed : c.cut.new.self ≡ c.in-Waiting.feed = search rules in
    let back = restores i.connections c.args.slot c.take-local.ensures.was (Waiting c.cut.new.self) c.take-local.ensures.done
    (λ found here. c.put-in-Err.ensures.open found (ap (λ (m : Machine). map.get m.state.connections c.args.slot) e ∙ here)
    ∙ ap (λ (m : Machine). map.insert m.state.connections c.args.slot (at_stage found (Waiting c.cut.new.self))) e)
    (ap Waiting feed ∙ sym c.in-Waiting.is) in
    (λ k. let m : Machine = record { config = (e k).config; state = state_of (e k).state.names (back k) (e k).state.halted } in m)
    ∙ c.self.view_is
