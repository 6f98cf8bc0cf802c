use Rattle.portmap_link.proofs.PutsOn.{sends_once, sends_whole}
use Rattle.portmap_link.proofs.outbox.send.Goals as goal

pub returns-clause-all : goal.returns-clause-all
returns-clause-all g c = sends_whole c.send_all-sent.result.flush c.send_all-sent.ensures.within c.send_all-sent.ensures.answers

pub returns-clause-answers : goal.returns-clause-answers
returns-clause-answers g c = sends_once c.send_all-sent.result.flush c.send_all-sent.ensures.within c.send_all-sent.ensures.answers
