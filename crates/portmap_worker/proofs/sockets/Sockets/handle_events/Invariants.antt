use Rattle.std.proofs.Common.{◌≡◌, take}
use Rattle.std.specs.Prelude.{IfSome}
use Rattle.portmap_worker.specs.IdleLinks.{AreNoted, Keeps}
use Rattle.portmap_worker.proofs.sockets.Sockets.handle_events.Given as goal

-- The reports before index `place` are noted.
abbrev pub invariant-loop-place : goal.invariant-loop-place
invariant-loop-place g l = record {
  system : l.self.system ≡ l.fn.self.system;
  noted : IfSome (g.S.System.reports l.self.system) (λ reports. AreNoted (take l.place reports) l.fn.links l.links);
  links : Keeps l.fn.links l.links;
}
