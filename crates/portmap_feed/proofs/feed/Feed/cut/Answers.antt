use Rattle.std.proofs.Math.Nat.{le_trans}
use Rattle.portmap_feed.proofs.StreamLaws.{kept-take, room-take}
use Rattle.portmap_feed.proofs.feed.Feed.cut.Goals as goal

pub invariant_of-self : goal.invariant_of-self
invariant_of-self c =
    let held = c.self.inside.bytes.items in
    rw (c.truncate.ensures.items, c.truncate.ensures.capacity)
    (kept-take _ held c.self.invariant.0, le_trans (room-take _ held) c.self.invariant.1)
