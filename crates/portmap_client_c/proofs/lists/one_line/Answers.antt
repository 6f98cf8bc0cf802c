use Rattle.std.proofs.Common.{Err, ap}
use Rattle.portmap_client_c.proofs.NextLine.{reads_first, reads_none}
use Rattle.portmap_client_c.proofs.lists.one_line.Goals as goal

pub returns-in-Some-clause-found : goal.returns-in-Some-clause-found
returns-in-Some-clause-found c = λ prefix one.
    let first = c.in-Some.ensures.found in
    reads_first c.args.list.now prefix c.in-Ok.field-0-0 c.in-Ok.lines.items c.in-Some.line c.in-Ok.ensures.found first.0 first.1 one

pub returns-in-Err-clause-fault : goal.returns-in-Err-clause-fault
returns-in-Err-clause-fault c = λ prefix one.
    let failed = c.in-Err.ensures in
    reads_none c.args.list.now prefix c.in-Err.fault c.requires failed.fault (λ none. failed.memory (ap Err none)) one
