use Rattle.std.proofs.Common.{sym, ap, ◌∙◌}
use Rattle.std.specs.Option.{option_copied_mut}
use Rattle.portmap_scheduler.specs.Links.{link_at, written}
use Rattle.portmap_worker.proofs.Idle.{itself, reported_so, then_reported, then_written, wakes}
use Rattle.portmap_worker.proofs.open_link.report.Goals as goal

pub returns : goal.returns
returns g c =
    let k = c.args.key in
    let r = c.args.links.now in
    let v = record c.in-Some.held.now { link = c.on_event.new.self } in
    record {
      reported = reported_so k r _ c.in-Some.held.now v (sym (ap option_copied_mut c.in-Some.is) ∙ c.get_mut.ensures.value)
          c.on_event.ensures.noted c.report.ensures;
      others = λ q d. ap (λ r. link_at r q) c.report.ensures
          ∙ (then_reported k r (written k r v) (then_written k v r r (itself k r))).others q d;
      links = wakes k _ r r _ (itself k r) (λ q most h. h) c.report.ensures;
    }
