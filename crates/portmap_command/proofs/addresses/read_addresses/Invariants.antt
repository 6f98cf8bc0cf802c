use Rattle.std.proofs.Common.{length}
use Rattle.portmap_command.proofs.Lists.{Reads}
use Rattle.portmap_command.proofs.addresses.read_addresses.Given as goal

abbrev pub invariant-loop-prefix : goal.invariant-loop-prefix
invariant-loop-prefix l = Reads l.fn.text l.addresses.items l.rest

abbrev pub decreases-loop-prefix : goal.decreases-loop-prefix
decreases-loop-prefix l = length l.rest
