use Rattle.std.proofs.{Common.{sym, ◌∙◌, inl, inr}, lemmas.Option.IfSome_then}
use Rattle.portmap_worker.specs.IdleLinks.{Keeps}
use Rattle.portmap_worker.proofs.Idle.{returned_none, stays_of, then_returns, then_returns_links, returned_stays, weaker}
use Rattle.portmap_worker.proofs.Turns.{free_so, nears_so, past_step, polls_so, spends}
use Rattle.portmap_worker.proofs.socket_source.SocketSource.step.{Given.Over, Goals.{After-requeue}}
use Rattle.portmap_worker.proofs.socket_source.SocketSource.step.Goals as goal

requeued : (g : Over) (c : After-requeue g) → Keeps c.args.self.now.links c.requeue.new.self.links
requeued g c = λ fact h. c.requeue.ensures.links fact (returned_none _ _ _ (sym c.is_some.ensures ∙ c.if-is_some.false)
    (weaker _ _ _ c.defer_request-held_back.ensures.links) fact h)

pub returns-then-is_some : goal.returns-then-is_some
returns-then-is_some g c = record {
  links = weaker _ _ _ c.defer_request-held_back.ensures.links;
  nears = free_so _ _ _ _ _ (sym c.is_some.ensures ∙ c.if-is_some.true) c.defer_request-held_back.ensures.links
      (IfSome_then _ c.defer_request-held_back.ensures.again (λ _. inr)) c.defer_request-held_back.ensures.schedule;
}

pub returns-then-is_some-2 : goal.returns-then-is_some-2
returns-then-is_some-2 g c =
    let before = requeued g (goal.at.returns-then-is_some-2 g c).After-requeue in
    let tells = then_returns _ _ _ _ before c.reset_unread-unread.ensures.links in
    record {
      links = weaker _ _ _ tells;
      nears = free_so _ _ _ _ _ (sym c.is_some-2.ensures ∙ c.if-is_some-2.true) tells
          (IfSome_then _ c.reset_unread-unread.ensures.late (λ _. inl))
          (c.reset_unread-unread.ensures.schedule ∙ c.requeue.ensures.schedule ∙ c.defer_request-held_back.ensures.schedule);
    }

pub returns-then-is_some-3 : goal.returns-then-is_some-3
returns-then-is_some-3 g c =
    let before : Keeps c.args.self.now.links c.reset_unread-unread.new.self.links = λ fact h.
    returned_none _ _ _ (sym c.is_some-2.ensures ∙ c.if-is_some-2.false) (weaker _ _ _ c.reset_unread-unread.ensures.links) fact
    (requeued g (goal.at.returns-then-is_some-3 g c).After-requeue fact h) in
    let same = c.reset_unread-unread.ensures.schedule ∙ c.requeue.ensures.schedule ∙ c.defer_request-held_back.ensures.schedule in
    record {
      links = then_returns_links _ _ _ _ before c.next-next.ensures.links;
      nears = nears_so _ _ _ _ _ _ (sym c.is_some-3.ensures ∙ c.if-is_some-3.true) (stays_of _ _ before) _ same
          c.next-next.ensures.nears;
    }

pub returns : goal.returns
returns g c =
    let before : Keeps c.args.self.now.links c.reset_unread-unread.new.self.links = λ fact h.
    returned_none _ _ _ (sym c.is_some-2.ensures ∙ c.if-is_some-2.false) (weaker _ _ _ c.reset_unread-unread.ensures.links) fact
    (requeued g (goal.at.returns g c).After-requeue fact h) in
    let same = c.reset_unread-unread.ensures.schedule ∙ c.requeue.ensures.schedule ∙ c.defer_request-held_back.ensures.schedule in
    let last = sym c.is_some-3.ensures ∙ c.if-is_some-3.false in
    let kept : Keeps c.args.self.now.links c.next-next.new.self.links = λ fact h.
    returned_none _ _ _ last c.next-next.ensures.links fact (before fact h) in
    let spent = spends _ _ c.next-next.new.self.links _ _ c.next-next.new.self.schedule _ last (stays_of _ _ before) same
    c.next-next.ensures.spent in
    record {
      links = weaker _ _ _ (then_returns _ _ _ _ kept c.poll.ensures.links);
      nears = past_step _ _ _ (polls_so _ _ _ spent (returned_stays _ _ _ c.poll.ensures.links) c.poll.ensures.schedule);
    }
