use Rattle.std.proofs.Common.{◌≡◌, ◌+◌, take, Some, ap, sym, subst, ◌∙◌, true≢false, rules}
use Rattle.std.proofs.lemmas.Option.{slice_get-get_or}
use Rattle.portmap_table.specs.{Creation.IsCreationFor, Rows.{AreKept, Names, is_known, owns_name}}
use Rattle.portmap_table.specs.{Table.{TableState, new_table, with_names}, declared.row.Row.Row}
use Rattle.portmap_table.proofs.{Finding.take_read, NameLaws.{admitted, new_active, new_owner, new_retired}}
use Rattle.portmap_table.proofs.table.Table.of.Goals.{then-old-eq0-via-then-old-eq0}
use Rattle.portmap_table.proofs.table.Table.of.Goals.{then-old-eq0-via-else-old-eq0+then-is_known}
use Rattle.portmap_table.proofs.table.Table.of.Goals.{then-is_known-2-via-then-is_known-2}
use Rattle.portmap_table.proofs.table.Table.of.Goals.{then-is_known-2-via-else-is_known-2+then-holds}
use Rattle.portmap_table.proofs.table.Table.of.Goals.{then-is_known-2-via-else-is_known-2+else-holds+then-not-is_creation_for}
use Rattle.portmap_table.proofs.table.Table.of.Goals as goal

pub returns-then-old-eq0-clause-none : goal.returns-then-old-eq0-clause-none
returns-then-old-eq0-clause-none c e k =
    let i = c.loop-old.old-index in
    let old = c.old-item.result in
    let there = slice_get-get_or c.args.retired.now i old c.loop-old-test.true ∙ ap Some (sym c.old-item.is) in
    elim c.then-old-eq0.branch [
      | then-old-eq0-via-then-old-eq0 w ↦ search rules
      | then-old-eq0-via-else-old-eq0+then-is_known w ↦ true≢false
          (sym w.if-is_known.true ∙ w.is_known.ensures ∙ ap (λ (t : TableState). is_known old.name t.names) c.loop-old.invariant.0
          ∙ new_retired k i old there)
    ]

pub returns-then-is_known-2-clause-none : goal.returns-then-is_known-2-clause-none
returns-then-is_known-2-clause-none c e k =
    let i = c.loop-row.row-index in
    let row = c.row-item.result in
    let there = slice_get-get_or c.args.active.now i row c.loop-row-test.true ∙ ap Some (sym c.row-item.is) in
    elim c.then-is_known-2.branch [
      | then-is_known-2-via-then-is_known-2 w ↦
          true≢false (sym w.if-is_known-2.true ∙ c.is_known-in-loop-row.ensures
          ∙ (λ j. is_known (c.row.view_is j).reg.name (c.loop-row.invariant.0 j).names) ∙ new_active k i row there)
      | then-is_known-2-via-else-is_known-2+then-holds w ↦ true≢false
          (sym w.if-holds.true ∙ w.holds.ensures ∙ (λ j. owns_name (c.row.view_is j).slot (c.loop-row.invariant.0 j).names)
          ∙ new_owner k i row there)
      | then-is_known-2-via-else-is_known-2+else-holds+then-not-is_creation_for w ↦
          let range = subst (λ (r : Row). IsCreationFor r.reg.high r.creation) (sym c.row-item.is ∙ sym c.row.view_is)
          (k.active_creations i row c.loop-row-test.true) in
          true≢false (sym (w.is_creation_for.ensures.1 range) ∙ w.if-not-is_creation_for.true)
    ]

abbrev before : (c : goal.In_ok-enter) → Names
before c = record { active = take c.loop-row.row-index c.args.active.now; retired = c.args.retired.now }

after : (c : goal.In_ok-enter) → c.enter.new.self
    ≡ with_names (new_table c.args.known_max c.args.first)
    (record { active = take (c.loop-row.row-index + 1) c.args.active.now; retired = c.args.retired.now })
after c = search (rules, admitted, slice_get-get_or, take_read)

pub loop-row-preserved : goal.loop-row-preserved
loop-row-preserved c = (after c, subst (λ (t : TableState). AreKept t.known_max t.names) (after c) c.enter.ensures.kept)
