use Rattle.portmap_worker.proofs.Idle.{none, none_there}
use Rattle.portmap_worker.proofs.socket_source.SocketSource.new.Goals as goal

pub returns-clause-quiet : goal.returns-clause-quiet
returns-clause-quiet g c = none _ c.new.ensures.links

pub returns-clause-none : goal.returns-clause-none
returns-clause-none g c = none_there c.new.result c.new.ensures.links
