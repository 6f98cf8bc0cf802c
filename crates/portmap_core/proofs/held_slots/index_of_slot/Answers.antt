use Rattle.std.proofs.{Common.rules, lemmas.List.Sorted.answers_always}
use Rattle.portmap_core.proofs.HeldLaws.{searched}
use Rattle.portmap_core.proofs.held_slots.index_of_slot.Goals as goal

pub returns : goal.returns
returns c =
    let facts = c.binary_search_by_key.ensures in
    searched c.args.slot c.args.held.now _ c.requires facts.bound
    (facts.position (λ h. h.slot) (answers_always _ _ _ (λ f a r g called. search rules)))
