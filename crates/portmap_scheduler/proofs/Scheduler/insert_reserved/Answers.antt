use Rattle.std.proofs.Common.{arith, rules}
use Rattle.portmap_scheduler.proofs.Calls.{insert_room, insert_seen, insert_whole, room_enough}
use Rattle.portmap_scheduler.proofs.Scheduler.insert_reserved.Goals as goal

pub push_back_reserved-requires : goal.push_back_reserved-requires
push_back_reserved-requires g c =
    let enough = room_enough c.self.inside c.self.view_is c.requires in
    let put = c.insert_reserved-key.ensures in
    let below = put.key_in_range in
    let same = put.capacity in
    let room = insert_room c.insert_reserved-key.result c.self.invariant put.was_vacant (omega arith) in
    let ok = c.self.inside.queue.ok in
    omega arith

pub invariant_of-self : goal.invariant_of-self
invariant_of-self g c =
    let enough = room_enough c.self.inside c.self.view_is c.requires in
    insert_whole {k = c.insert_reserved-key.result} {value = c.args.value} (search rules) c.self.invariant

pub returns-clause-inserted : goal.returns-clause-inserted
returns-clause-inserted g c =
    let enough = room_enough c.self.inside c.self.view_is c.requires in
    let new = record c.self.inside { held = c.insert_reserved-key.new.self; queue = c.push_back_reserved.new.self } in
    rw (← c.self.view_is) (
    insert_seen {k = c.insert_reserved-key.result} {value = c.args.value} {old = c.self.inside} {new = new} (search rules))
