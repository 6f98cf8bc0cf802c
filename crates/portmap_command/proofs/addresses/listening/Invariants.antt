use Rattle.std.proofs.Common.{◌≡◌, [], take}
use Rattle.portmap_command.specs.Addresses.{with_each}
use Rattle.portmap_command.proofs.addresses.listening.Given as goal

abbrev pub invariant-loop-address : goal.invariant-loop-address
invariant-loop-address l = l.addresses.items ≡ with_each [] (take l.address-index l.listed)
