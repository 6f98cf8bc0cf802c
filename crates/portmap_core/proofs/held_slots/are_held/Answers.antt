use Rattle.std.specs.Prelude.{All}
use Rattle.std.proofs.Common.{◌↔◌, ◌+◌, ltb, ltb-true, ltb-false, sym, rules, arith, IsTrue}
use Rattle.std.proofs.lemmas.List.Sorted.{answers_always}
use Rattle.portmap_core.specs.Held.{AreHeld, IsHeld}
use Rattle.portmap_core.proofs.HeldLaws.{any_held, rise_by, rising}
use Rattle.portmap_core.proofs.held_slots.are_held.Goals as goal

pub returns-then-is_sorted_by : goal.returns-then-is_sorted_by
returns-then-is_sorted_by c =
    let sorted = c.if-is_sorted_by.ensures.cases (λ x y. ltb x.slot y.slot) (answers_always _ _ _ (λ f a r g called. search rules)) in
    let each : IsTrue c.all.result ↔ All IsHeld c.args.held.now = search rules in
    (λ t. record { rise = rise_by c.args.held.now (λ k d lt. ltb-true _ _ (sym (sorted k d lt))); each = each.0 t }, λ are. each.1 are.each)

pub returns-else-is_sorted_by : goal.returns-else-is_sorted_by
returns-else-is_sorted_by c =
    let sorted = c.if-is_sorted_by.ensures.cases (λ x y. ltb x.slot y.slot) (answers_always _ _ _ (λ f a r g called. search rules)) in
    let far = λ (are : AreHeld c.args.held.now).
    rising c.args.held.now sorted.0 (sorted.0 + 1) any_held are.rise (omega arith) sorted.1 in
    (λ t. absurd cc, λ are. absurd (omega (arith, far are, ltb-false _ _ (sym (sorted.2 any_held)))))
