-- What is printed of passed sockets: profile.
use Rattle.std.specs.{Fmt.signed_decimal, List.concat, Prelude.{ℕ, List, [], ◌∷◌}}
use Rattle.portmap_daemon.specs.declared.listening.HandedFault.{HandedFault, TheVariants.{NoMemory, NotListening}}
use Rattle.portmap_command.specs.{Actions.line_of, declared.actions.Failure.TheVariants.Memory}
use Rattle.portmap_command.specs.declared.actions.TheConstants as actions
use Rattle.portmap_command.specs.declared.handing.TheConstants as the

abbrev pub status_of_handed : HandedFault → ℕ
status_of_handed (NotListening number) = actions.NOT_DONE
status_of_handed NoMemory = actions.FAILED

abbrev pub line_of_handed : HandedFault → List ℕ
line_of_handed (NotListening number) = concat (the.DESCRIPTOR.now ∷ signed_decimal number ∷ the.NOT_LISTENING.now ∷ [])
line_of_handed NoMemory = line_of Memory
