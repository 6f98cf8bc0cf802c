use Rattle.std.proofs.Common.{◌≡◌, ◌∙◌}
use Rattle.portmap_worker.specs.IdleLinks.{Keeps}
use Rattle.portmap_worker.proofs.{Idle.then_returns, Turns.{asked}, socket_source.SocketSource.poll.Given.Over}
use Rattle.portmap_worker.proofs.socket_source.SocketSource.poll.Goals.{After-wait-is_well, After-scan_links}
use Rattle.portmap_worker.proofs.socket_source.SocketSource.poll.Goals as goal

kept : (g : Over) (c : After-wait-is_well g) → Keeps c.args.self.now.links c.wait-is_well.new.self.links
kept g c = λ fact h. c.wait-is_well.ensures.links fact (c.retry_pending.ensures.links fact h)

waited : (g : Over) (c : After-wait-is_well g) → c.wait-is_well.new.self.schedule ≡ record c.args.self.now.schedule { turns = 0 }
waited g c =
    asked c.args.self.now.schedule c.retry_pending.new.self.schedule c.wait-is_well.new.self.schedule
    c.retry_pending.ensures.schedule c.wait-is_well.ensures.schedule

scanned : (g : Over) (c : After-scan_links g) → Keeps c.args.self.now.links c.scan_links.new.self.links
scanned g c = λ fact h. c.scan_links.ensures.links fact (rw c.pass_listeners.ensures.links
    (c.wait-is_well.ensures.links fact (c.retry_pending.ensures.links fact h)))

polled : (g : Over) (c : After-scan_links g) → c.scan_links.new.self.schedule ≡ record c.args.self.now.schedule { turns = 0 }
polled g c =
    c.scan_links.ensures.schedule ∙ c.pass_listeners.ensures.schedule
    ∙ asked c.args.self.now.schedule c.retry_pending.new.self.schedule c.wait-is_well.new.self.schedule
    c.retry_pending.ensures.schedule c.wait-is_well.ensures.schedule

pub returns-then-not-is_well : goal.returns-then-not-is_well
returns-then-not-is_well g c =
    let at = (goal.at.returns-then-not-is_well g c).After-wait-is_well in
    record { links = rw c.fail.ensures (kept g at); schedule = waited g at }

pub returns-then-is_stopping : goal.returns-then-is_stopping
returns-then-is_stopping g c =
    let at = (goal.at.returns-then-is_stopping g c).After-wait-is_well in
    record { links = kept g at; schedule = waited g at }

pub returns-then-not-scan_links : goal.returns-then-not-scan_links
returns-then-not-scan_links g c =
    let at = (goal.at.returns-then-not-scan_links g c).After-scan_links in
    record { links = rw c.fail-then-not-scan_links.ensures (scanned g at); schedule = polled g at }

pub returns-in-None : goal.returns-in-None
returns-in-None g c =
    let at = (goal.at.returns-in-None g c).After-scan_links in
    record {
      links = λ fact h. rw c.in-None.is at c.evict_for_other_worker.ensures.links fact (scanned g at fact h);
      schedule = rw c.evict_for_other_worker.ensures.schedule (polled g at);
    }

pub returns-in_default : goal.returns-in_default
returns-in_default g c =
    let at = (goal.at.returns-in_default g c).After-scan_links in
    record {
      links = then_returns _ _ _ _ (scanned g at) c.evict_for_other_worker.ensures.links;
      schedule = rw c.evict_for_other_worker.ensures.schedule (polled g at);
    }

pub returns-in_default-2 : goal.returns-in_default-2
returns-in_default-2 g c =
    let at = (goal.at.returns-in_default-2 g c).After-scan_links in
    record {
      links = then_returns _ _ _ _ (scanned g at) c.evict_for_other_worker.ensures.links;
      schedule = rw c.evict_for_other_worker.ensures.schedule (polled g at);
    }
