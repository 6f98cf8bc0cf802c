use Rattle.std.specs.Prelude.{string_bytes}
use Rattle.std.proofs.Common.{◌≡◌, ◌≤◌, length, List, ℕ, map, subst, arith, true, sym, ◌∙◌, ◌-◌, drop}
use Rattle.std.proofs.lemmas.List.{length-take, length-drop}
use Rattle.portmap_command.specs.Words.{Begins, is_action}
use Rattle.portmap_command.proofs.PlanLemmas.{has_read_all, has_read_more, in_prefix}
use Rattle.portmap_command.proofs.words.read_all.Goals as goal

pub loop-rest-preserved : goal.loop-rest-preserved
loop-rest-preserved c =
    let some : 1 ≤ length c.loop-rest.rest.now = c.in-len1-up.len_at_least in
    let begins : Begins c.in_ok-item.item (map string_bytes c.loop-rest.rest.now) (map string_bytes c.in_ok-item.after.now) =
    subst (λ (words : List (List ℕ)). Begins c.in_ok-item.item words (map string_bytes c.in_ok-item.after.now))
    (in_prefix string_bytes c.loop-rest.rest.now c.first-item.result some c.first-item.is) c.in_ok-item.ensures.spelled in
    let one = λ (is : is_action c.in_ok-item.item ≡ true). sym c.has_action.ensures ∙ c.in_ok-item.ensures.one is in
    let fewer = c.in_ok-item.ensures.fewer in (
      has_read_more (map string_bytes c.args.words.now) (map string_bytes c.loop-rest.rest.now) (map string_bytes c.in_ok-item.after.now)
          c.in_ok-item.item c.loop-rest.plan c.add.new.self c.loop-rest.invariant.0 begins c.add.ensures one,
      omega (
        arith,
        c.loop-rest.invariant.1,
        fewer,
        length-take (length c.loop-rest.rest.now - 1) (drop 1 c.loop-rest.rest.now),
        length-drop 1 c.loop-rest.rest.now,
      ),
    )

pub returns-clause-spelled : goal.returns-clause-spelled
returns-clause-spelled c = has_read_all string_bytes
    (map string_bytes c.args.words.now) c.loop-rest.rest.now c.loop-rest.plan c.in_default.len_below c.loop-rest.invariant.0
