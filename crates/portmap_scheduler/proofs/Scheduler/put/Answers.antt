use Rattle.std.proofs.Common.{arith, rules}
use Rattle.portmap_scheduler.proofs.Calls.{put_seen, put_whole, rooms_at}
use Rattle.portmap_scheduler.proofs.Scheduler.put.Goals as goal

pub push_if-requires : goal.push_if-requires
push_if-requires g c e =
    let room = (rooms_at c.args.key c.self.invariant c.self.view_is c.requires.from).queue in
    omega arith

pub push_if-requires-2 : goal.push_if-requires-2
push_if-requires-2 g c e =
    let room = (rooms_at c.args.key c.self.invariant c.self.view_is c.requires.from).pending in
    omega arith

pub invariant_of-self : goal.invariant_of-self
invariant_of-self g c =
    put_whole c.args.state {k = c.args.key} (search rules) c.self.invariant c.self.view_is c.requires.from c.requires.to

pub returns : goal.returns
returns g c =
    let new =
    record c.self.inside {
      held = c.set_state.new.held;
      queue = c.push_if.new.keys;
      pending = c.push_if-2.new.keys;
      current = c.forget-self-inside.result;
    } in
    rw (← c.self.view_is) (put_seen c.args.state {k = c.args.key} {old = c.self.inside} {new = new} (search rules))
