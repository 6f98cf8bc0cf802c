use Rattle.std.proofs.Common.{rules}
use Rattle.portmap_scheduler.proofs.Calls.{link_written, write_seen, write_whole}
use Rattle.portmap_scheduler.proofs.Scheduler.value_mut.Goals as goal

pub invariant_of-self-lent : goal.invariant_of-self-lent
invariant_of-self-lent g c w = write_whole c.self.inside c.args.key c.index_mut.ensures.value c.self.invariant w

pub returns : goal.returns
returns g c = search (rules, link_written, write_seen)
