use Rattle.std.proofs.Common.{sym, ap, ◌∙◌}
use Rattle.portmap_worker.specs.IdleLinks.{hears, noted_at}
use Rattle.portmap_worker.proofs.Idle.{one_noted}
use Rattle.portmap_worker.proofs.sockets.Sockets.handle_event.Goals as goal

pub returns-in-Stream-clause-noted : goal.returns-in-Stream-clause-noted
returns-in-Stream-clause-noted g c = λ k.
    one_noted c.in-Stream.key c.in-Stream.is_closed c.args.links.now c.report-in-Stream.new.links
    c.report-in-Stream.ensures.reported c.report-in-Stream.ensures.others k
    ∙ ap (hears k (noted_at c.args.links.now k)) (sym c.in-Stream.is)
