use Rattle.std.proofs.Common.{arith, rules}
use Rattle.portmap_feed.proofs.StreamLaws.{length-kept, room_decided, kept-append}
use Rattle.portmap_feed.proofs.feed.wanted_of.Goals as goal

pub returns-clause-fits : goal.returns-clause-fits
returns-clause-fits c = omega (arith, length-kept c.args.held.now c.args.piece.now c.requires)

pub returns-clause-kept : goal.returns-clause-kept
returns-clause-kept c = kept-append c.args.held.now c.args.piece.now c.min.result c.requires (search rules)

pub returns-clause-decided : goal.returns-clause-decided
returns-clause-decided c = λ decided. omega (arith, room_decided c.args.held.now c.args.piece.now decided)
