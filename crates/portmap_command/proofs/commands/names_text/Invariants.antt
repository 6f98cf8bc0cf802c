use Rattle.std.proofs.Common.{◌≡◌, take}
use Rattle.portmap_command.specs.Commands.{names_text}
use Rattle.portmap_command.proofs.commands.names_text.Given as goal

abbrev pub invariant-loop-line : goal.invariant-loop-line
invariant-loop-line l = l.text.items ≡ names_text l.port (take l.line-index l.lines)
