-- The faults of a daemon: profile.
use Rattle.std.specs.Prelude.{ℕ, ◌<◌}
use Rattle.portmap_worker.specs.declared.ending.ShutdownCause.{ShutdownCause}
use Rattle.portmap_worker.specs.declared.ending.ShutdownCause.TheVariants as failure
use Rattle.portmap_daemon.specs.declared.daemon.RunFault.{RunFault, TheVariants.{Listen, ListenBeside, NoMemory, Poll}}

-- The index of a refused address is below `count`.
abbrev pub IsOfAddresses : ℕ → RunFault → Type 0
IsOfAddresses count (Listen place error) = place < count
IsOfAddresses count (ListenBeside place error) = place < count
IsOfAddresses count Poll = Unit {0}
IsOfAddresses count NoMemory = Unit {0}

-- The fault of a daemon whose workers stop for this cause.
abbrev pub fault_by : ShutdownCause → RunFault
fault_by failure.Poll = Poll
fault_by failure.NoMemory = NoMemory
