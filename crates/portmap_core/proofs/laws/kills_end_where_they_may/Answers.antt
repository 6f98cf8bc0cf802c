use Rattle.portmap_core.proofs.LocalPeers.{kills_are_refused, kills_end}
use Rattle.portmap_core.proofs.laws.kills_end_where_they_may.Goals as goal

pub returns : goal.returns
returns c = record { ends = kills_end; refused = kills_are_refused }
