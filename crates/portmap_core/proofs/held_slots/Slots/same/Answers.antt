use Rattle.std.proofs.Common.{List, length, rules, eqb-true, sym, ap, ◌∙◌}
use Rattle.std.proofs.lemmas.Iterator.{YieldsList-from_slice, YieldsList-from_zip, same_from_all}
use Rattle.portmap_core.specs.Held.{HeldValue, connections_held}
use Rattle.portmap_core.proofs.HeldLaws.{same_held}
use Rattle.portmap_core.proofs.held_slots.Slots.same.Goals as goal

pub returns-then-held-others : goal.returns-then-held-others
returns-then-held-others c =
    let held = c.as_slice-held.ensures.value in
    let others = c.as_slice-others.ensures.value in
    let items = YieldsList-from_zip (YieldsList-from_slice {s = c.zip.result.a} c.as_slice-held.result.now cc)
    (YieldsList-from_slice {s = c.zip.result.b} c.as_slice-others.result.now cc) in
    let decides = same_from_all {s = c.zip.result} c.all.new.self _ c.all.result _ _ c.all.ensures.ran items c.if-held-others.true
    (λ x q k. search rules) (λ x q k. search rules) in
    rw (← c.self.view_is, ← c.other.view_is) (
      λ t. ap (λ (xs : List HeldValue). connections_held xs) (sym held ∙ decides.0 t ∙ others),
      λ e. decides.1 (held ∙ same_held _ _ c.self.invariant c.other.invariant e ∙ sym others),
    )

pub returns-else-held-others : goal.returns-else-held-others
returns-else-held-others c =
    let held = c.as_slice-held.ensures.value in
    let others = c.as_slice-others.ensures.value in
    rw (← c.self.view_is, ← c.other.view_is) (
      λ t. absurd (c.if-held-others.false (eqb-true _ _ t)),
      λ e. absurd (c.if-held-others.false (ap length (held ∙ same_held _ _ c.self.invariant c.other.invariant e ∙ sym others))),
    )
