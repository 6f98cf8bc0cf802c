use Rattle.std.proofs.Common.{rules, sym}
use Rattle.std.proofs.lemmas.Fn.{filter_same}
use Rattle.portmap_scheduler.proofs.Times.{without_absent}
use Rattle.portmap_scheduler.proofs.cut_if.Goals as goal

pub returns-then-is_listed-clause-items : goal.returns-then-is_listed-clause-items
returns-then-is_listed-clause-items c = filter_same _ _ _ (λ x b f' k. search rules) _ _ c.retain.ensures.filtered

pub returns-else-is_listed-clause-items : goal.returns-else-is_listed-clause-items
returns-else-is_listed-clause-items c = sym (without_absent _ _ (c.requires c.if-is_listed.false))
