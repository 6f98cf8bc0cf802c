use Rattle.std.proofs.Common.{false, refl}
use Rattle.portmap_worker.specs.IdleLinks.{Changes}
use Rattle.portmap_worker.proofs.{Idle.{after_remove, ends}, Turns.leaves}
use Rattle.portmap_worker.proofs.socket_source.SocketSourceLinkSource.end.Goals as goal

pub returns-in-Some : goal.returns-in-Some
returns-in-Some g c =
    let change : Changes c.args.key false c.args.self.now.links c.on_end.new.self.links =
    rw c.on_end.ensures.links (after_remove _ c.args.self.now.links c.remove.new.self c.remove.ensures.removed) in
    record { links = change; waits = leaves c.args.key _ _ change c.on_end.ensures.schedule; ends = ends _ _ _ change }

pub returns-in_default : goal.returns-in_default
returns-in_default g c =
    let change = after_remove _ c.args.self.now.links c.remove.new.self c.remove.ensures.removed in
    record { links = change; waits = leaves c.args.key _ _ change refl; ends = ends _ _ _ change }
