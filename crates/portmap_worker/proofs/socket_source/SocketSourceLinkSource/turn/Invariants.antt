use Rattle.std.proofs.Common.{◌≡◌, ◌⊎◌}
use Rattle.portmap_worker.specs.{IdleLinks.Keeps, Schedule.{IsPast, scene}}
use Rattle.portmap_worker.proofs.socket_source.SocketSourceLinkSource.turn.Given as goal

-- No step was made, or every queued link is one turn nearer.
abbrev pub invariant-loop : goal.invariant-loop
invariant-loop g l = record {
  links : Keeps l.fn.self.links l.self.links;
  nears : ((l.counter ≡ 0) × (scene l.self.links l.self.schedule ≡ scene l.fn.self.links l.fn.self.schedule))
      ⊎ IsPast (scene l.fn.self.links l.fn.self.schedule) (scene l.self.links l.self.schedule);
}
