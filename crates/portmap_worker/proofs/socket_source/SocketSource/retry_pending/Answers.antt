use Rattle.std.proofs.Common.{refl, ap, rules}
use Rattle.portmap_scheduler.specs.declared.LinkState.TheVariants.{Current}
use Rattle.portmap_worker.proofs.Idle.{seen, taken}
use Rattle.portmap_worker.specs.IdleLinks.{Holds}
use Rattle.portmap_worker.proofs.socket_source.SocketSource.retry_pending.Goals.{in-Some-goes_on, in-None}
use Rattle.portmap_worker.proofs.socket_source.SocketSource.retry_pending.Goals as goal

pub loop-turn-preserved : goal.loop-turn-preserved
loop-turn-preserved g c = record {
  current = search rules;
  schedule = search rules;
  links = λ fact h.
      let taken = taken Current _ c.loop-turn.self.links c.next_pending.new.self
      (ap seen c.next_pending.ensures.current) (λ v. refl) fact (c.loop-turn.invariant.links fact h) in
      let asked : Holds fact c.goes_on.new.self.links = rw c.goes_on.ensures.links taken in
      elim c.match-goes_on.branch [
        | in-Some-goes_on w ↦ rw w.self-is (w.wait_on.ensures.links fact asked)
        | in-None w ↦
            let before : Holds fact w.refuses-is_short.new.self.links = rw w.refuses-is_short.ensures.links asked in
            rw w.self-is (w.resume.ensures.links fact before)
      ];
}
