use Rattle.std.proofs.Common.{◌≡◌, rules}
use Rattle.portmap_core.proofs.HeldLaws.{turned_are}
use Rattle.portmap_core.proofs.held_slots.Slots.put.Goals as goal

pub invariant_of-self : goal.invariant_of-self
invariant_of-self c =
    let at = rw c.as_slice.ensures.value at c.in-Ok.ensures in
    let slot : c.turn.new.self.slot ≡ c.args.slot = search rules in
    turned_are c.self.inside.held.items c.in-Ok.at c.turn.new.self c.self.invariant (rw slot at) c.turn.ensures.held
