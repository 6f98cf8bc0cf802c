use Rattle.portmap_worker.proofs.Asked.{one_asked}
use Rattle.portmap_worker.proofs.link.Link.watch.Goals as goal

pub returns-then-on_watched-clause-asked : goal.returns-then-on_watched-clause-asked
returns-then-on_watched-clause-asked g c =
    one_asked _ _ _ _ _ _ _ c.on_watched.ensures.noted (rw c.wanted-interest.ensures at c.watch-outcome.ensures)
