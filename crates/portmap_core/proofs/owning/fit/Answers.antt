use Rattle.std.proofs.Common.{ap, arith, rules}
use Rattle.portmap_core.specs.{Fitting.IsHeldFor, Held.HeldValue}
use Rattle.portmap_core.proofs.Fitting.{each_by, owners_by, together}
use Rattle.portmap_core.proofs.owning.fit.Goals as goal

pub returns-then-not-branch : goal.returns-then-not-branch
returns-then-not-branch c = (
  λ e. absurd cc,
  λ slots.
      let each =
      each_by c.args.table.now.names c.args.connections.now c.held-h-items.result.now c.held-h-items.ensures.entries
      c.held-h-items.ensures.held slots in
      let here : IsHeldFor c.args.table.now.names c.h-item.result = search rules in
      let may = c.in_ok-may_own.ensures.1 (rw (c.holds.ensures, ap (λ (h : HeldValue). h.slot) c.h.view_is) here) in
      cc,
)

pub returns : goal.returns
returns c = (
  λ are.
      together c.args.table.now.names c.args.connections.now c.held-h-items.result.now c.held-h-items.ensures.entries
      c.held-h-items.ensures.held (λ k d lt. c.loop-h.invariant k d (omega arith)) (c.owners_are_open.ensures.0 are),
  λ slots. c.owners_are_open.ensures.1 (owners_by c.args.table.now.names c.args.connections.now slots),
)
