use Rattle.std.proofs.Common.{length, ap, arith}
use Rattle.portmap_feed.proofs.StreamLaws.{kept_most}
use Rattle.portmap_feed.proofs.feed.Feed.kept.Goals as goal

pub returns-clause-most : goal.returns-clause-most
returns-clause-most c = omega (arith, kept_most c.self.inside.bytes.items, ap length c.self.invariant.0, ap length c.self.view_is)
