use Rattle.std.proofs.Common.{refl, rules}
use Rattle.portmap_wire.proofs.ListingLemmas.{named_line}
use Rattle.portmap_wire.proofs.list_reading.is_line.Goals as goal

pub returns-in-Some : goal.returns-in-Some
returns-in-Some c = search (rules, named_line)

pub returns-in-None : goal.returns-in-None
returns-in-None c = λ line r. c.in-None.ensures.none refl line.name line.port r.shape
