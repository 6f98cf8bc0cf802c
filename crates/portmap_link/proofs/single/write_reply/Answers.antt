use Rattle.std.proofs.Common.{ap}
use Rattle.portmap_link.specs.Limit.{fault_of}
use Rattle.portmap_link.proofs.PutsOn.{sends_again, sends_all_turns}
use Rattle.portmap_link.proofs.single.write_reply.Goals as goal

pub returns-in-Later-clause-due : goal.returns-in-Later-clause-due
returns-in-Later-clause-due g c = λ sent given_up.
    sends_again c.send_all-sent.result.flush (ap fault_of c.in-Later.is) c.send_all-sent.ensures.answers

pub returns-in-Later-clause-all : goal.returns-in-Later-clause-all
returns-in-Later-clause-all g c = λ sent given_up. sends_all_turns (rw c.in-Later.is at c.send_all-sent.ensures.answers)
