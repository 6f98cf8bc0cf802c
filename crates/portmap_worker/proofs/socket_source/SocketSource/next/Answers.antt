use Rattle.std.proofs.Common.{sym, ◌∙◌, rules}
use Rattle.portmap_worker.proofs.Idle.{returned_none, stays_of, then_returns_links, weaker}
use Rattle.portmap_worker.proofs.Turns.{accepts_so, passes_so, spent_so}
use Rattle.portmap_worker.proofs.socket_source.SocketSource.next.Goals as goal

pub returns-then-is_some-clause-links : goal.returns-then-is_some-clause-links
returns-then-is_some-clause-links g c = weaker _ _ _ c.accept-accepted.ensures.links

pub returns-then-is_some-clause-nears : goal.returns-then-is_some-clause-nears
returns-then-is_some-clause-nears g c =
    accepts_so _ _ _ _ c.take_turn.new.self _ (c.take_turn.ensures.most.0 c.if-not-take_turn.false)
    (c.take_turn.ensures.counted c.if-not-take_turn.false) c.accept-accepted.ensures.links c.accept-accepted.ensures.some

pub returns : goal.returns
returns g c =
    let before = returned_none _ _ _ (sym c.is_some.ensures ∙ c.if-is_some.false) (weaker _ _ _ c.accept-accepted.ensures.links) in
    record {
      none = search rules;
      most = search rules;
      links = then_returns_links _ _ _ _ before c.pop.ensures.links;
      nears = passes_so _ c.accept-accepted.new.self.links c.pop.new.self.links _ _ _ (stays_of _ _ before) c.pop.ensures.passes;
      spent = spent_so _ c.accept-accepted.new.self.links c.pop.new.self.links _ _ _ _ (stays_of _ _ before) c.pop.ensures.none;
    }
