use Rattle.std.proofs.Common.{refl, sym, ap, ◌∙◌, rules}
use Rattle.std.specs.Option.{option_copied_mut}
use Rattle.portmap_worker.specs.IdleLinks.{There}
use Rattle.portmap_worker.proofs.{Idle.{lent, reports, stays_of, there_before}, Turns.{lends, waits}}
use Rattle.portmap_worker.proofs.socket_source.SocketSourceLinkSource.lend.Goals as goal

pub returns-in_err-held : goal.returns-in_err-held
returns-in_err-held g c =
    let links = reports c.args.key c.args.self.now.links c.report.new.self c.report.ensures in
    record {
      there = rw c.from_residual.ensures (there_before c.args.key c.args.self.now.links c.report.new.self _ c.report.ensures
          (sym (ap option_copied_mut c.in_err-held.was) ∙ c.get_mut.ensures.value));
      links = links;
      waits = waits _ _ (stays_of _ _ links) refl;
      stay = λ k there. links (There k there);
      served = search rules;
      none = search rules;
    }

pub returns : goal.returns
returns g c =
    let links = lent c.args.key _ c.args.self.now.links c.report.new.self c.report.ensures in
    record {
      there = there_before c.args.key c.args.self.now.links c.report.new.self _ c.report.ensures
          (sym (ap option_copied_mut c.in_ok-held.was) ∙ c.get_mut.ensures.value);
      links = links;
      waits = lends c.args.key _ c.args.self.now.links c.report.new.self _ c.report.ensures;
      stay = λ k there. links (There k there);
      served = search rules;
      none = search rules;
    }
