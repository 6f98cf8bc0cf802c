use Rattle.std.proofs.Common.{refl}
use Rattle.portmap_core.proofs.Shown.{lists_are_read_back}
use Rattle.portmap_command.specs.Commands.{NamesArePrinted}
use Rattle.portmap_command.proofs.commands.names_are_printed.Goals as goal

are_printed : NamesArePrinted
are_printed cfg es s s' slot connection body reply list is run c spells says =
    let back = lists_are_read_back cfg es s s' slot connection body reply is run c spells in
    rw (back.port_is _ _ says.1, back.lines_are _ _ says.1) refl

pub returns : goal.returns
returns c = are_printed
