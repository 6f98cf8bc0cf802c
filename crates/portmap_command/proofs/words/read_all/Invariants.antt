use Rattle.std.specs.Prelude.{string_bytes, ◌≤◌}
use Rattle.std.proofs.Common.{length, map}
use Rattle.portmap_command.proofs.PlanLemmas.{HasRead}
use Rattle.portmap_command.proofs.words.read_all.Given as goal

abbrev pub invariant-loop-rest : goal.invariant-loop-rest
invariant-loop-rest l = HasRead (map string_bytes l.fn.words) (map string_bytes l.rest) l.plan × (length l.rest ≤ length l.fn.words)

abbrev pub decreases-loop-rest : goal.decreases-loop-rest
decreases-loop-rest l = length l.rest
