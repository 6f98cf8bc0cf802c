use Rattle.std.proofs.Common.{refl, sym, ap, ◌∙◌}
use Rattle.portmap_scheduler.specs.declared.LinkState.TheVariants.{Current}
use Rattle.portmap_worker.proofs.Idle.{first_goes, none_current, returns_of, current_written}
use Rattle.portmap_worker.proofs.Turns.{passes_first}
use Rattle.portmap_worker.specs.declared.source.Turn.TheVariants.{Ready}
use Rattle.portmap_worker.proofs.socket_source.SocketSource.pop.Goals as goal

pub returns-in_err-key-clause-links : goal.returns-in_err-key-clause-links
returns-in_err-key-clause-links g c =
    rw c.from_residual.ensures
    (none_current c.args.self.now.links _ (sym c.next-key.ensures.key ∙ c.in_err-key.was) c.next-key.ensures.current)

pub returns-in_default-clause-links : goal.returns-in_default-clause-links
returns-in_default-clause-links g c = first_goes Current _ c.args.self.now.links _ (ap (λ r. r.links) c.next-key.ensures.current)
    (λ v. refl)

pub returns-in_default-clause-passes : goal.returns-in_default-clause-passes
returns-in_default-clause-passes g c =
    passes_first c.in_ok-key.key (Ready c.in_ok-key.key) c.args.self.now.links c.next-key.new.self
    (sym c.next-key.ensures.key ∙ c.in_ok-key.was) (ap (λ r. r.queue) c.next-key.ensures.current) refl

pub returns-clause-links : goal.returns-clause-links
returns-clause-links g c =
    returns_of _ _ _ _ c.turn.ensures.link
    (current_written c.in_ok-key.key c.args.self.now.links c.next-key.new.self _ (sym c.next-key.ensures.key ∙ c.in_ok-key.was)
    c.next-key.ensures.current)

pub returns-clause-passes : goal.returns-clause-passes
returns-clause-passes g c = λ k most h.
    passes_first c.in_ok-key.key c.turn.result c.args.self.now.links c.next-key.new.self (sym c.next-key.ensures.key ∙ c.in_ok-key.was)
    (ap (λ r. r.queue) c.next-key.ensures.current) c.turn.ensures.link k most h
