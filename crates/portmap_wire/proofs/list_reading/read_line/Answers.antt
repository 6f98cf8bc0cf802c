use Rattle.std.proofs.Common.{refl}
use Rattle.portmap_wire.proofs.ListingLemmas.{refused}
use Rattle.portmap_wire.proofs.list_reading.read_line.Goals as goal

pub returns-in_default : goal.returns-in_default
returns-in_default c = λ line r. c.in_default.ensures.none refl line.name line.port r.shape

pub returns-in_default-fault : goal.returns-in_default-fault
returns-in_default-fault c =
    refused c.args.text.now c.in-Some.name.now c.in-Some.port c.in-Err.fault c.in_default-fault.not-NoMemory c.in-Err.ensures.only
    c.in-Some.ensures.found
