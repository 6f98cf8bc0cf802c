use Rattle.portmap_core.proofs.Shown.{remote_peers_may_only_look_up}
use Rattle.portmap_core.proofs.laws.remote_peers_may_only_look_up.Goals as goal

pub returns : goal.returns
returns c = remote_peers_may_only_look_up
