use Rattle.std.proofs.Common.{Some, ◌<◌, arith, inr}
use Rattle.portmap_worker.specs.declared.source.Turn.TheVariants.{Idle}
use Rattle.portmap_worker.proofs.Idle.{comes, then_returns_links}
use Rattle.portmap_worker.proofs.Turns.{idle_turn, past_again, turn_again}
use Rattle.portmap_worker.proofs.socket_source.SocketSourceLinkSource.turn.Goals as goal

pub loop-preserved : goal.loop-preserved
loop-preserved g c = record {
  links = λ fact h. c.in_default.ensures.links fact (c.loop.invariant.links fact h);
  nears = inr (past_again c.loop.counter _ _ _ c.loop.invariant.nears c.in_default.ensures.nears);
}

pub returns-clause-comes : goal.returns-clause-comes
returns-clause-comes g c = comes Idle c.args.self.now.links c.loop.self.links (λ fact _. c.loop.invariant.links fact)

pub returns-in-Some : goal.returns-in-Some
returns-in-Some g c =
    let links = then_returns_links _ c.loop.self.links _ (Some c.in-Some.turn) c.loop.invariant.links
    (rw c.in-Some.is at c.step.ensures.links) in
    record {
      links = links;
      nears = turn_again c.loop.counter c.in-Some.turn _ _ _ c.loop.invariant.nears (rw c.in-Some.is at c.step.ensures.nears);
      comes = comes c.in-Some.turn c.args.self.now.links c.step.new.self.links links;
    }

pub returns-clause-nears : goal.returns-clause-nears
returns-clause-nears g c =
    let some : 0 < c.loop.counter = omega (arith, c.loop-test.false) in
    idle_turn c.loop.counter _ _ _ some c.loop.invariant.nears
