use Rattle.std.proofs.Common.{◌≡◌, ℕ, ◌++◌, drop, subst, ◌∙◌, arith}
use Rattle.std.proofs.lemmas.List.{take_rest}
use Rattle.portmap_operator.specs.Showing.{shown, shown_behind}
use Rattle.portmap_operator.proofs.{Escaping.{is_begun, is_passed}, showing.put_shown.Goals.{else-more-gt0+in_ok-more, then-more-gt0}}
use Rattle.portmap_operator.proofs.showing.put_shown.Goals as goal

pub loop-place-preserved : goal.loop-place-preserved
loop-place-preserved c =
    let whole = c.args.text.now.items ++ shown c.args.bytes.now in
    elim c.if-more-gt0.branch [
      | then-more-gt0 w ↦ rw (w.text-is, w.more-is) (is_passed c.loop-place.text.items c.args.bytes.now c.loop-place.place
          c.loop-place.more c.loop-place-test.true w.if-more-gt0.true ∙ c.loop-place.invariant)
      | else-more-gt0+in_ok-more w ↦
          let here : c.loop-place.text.items ++ shown_behind 0 (drop c.loop-place.place c.args.bytes.now) ≡ whole =
          subst
          (λ (count : ℕ). c.loop-place.text.items ++ shown_behind count (drop c.loop-place.place c.args.bytes.now) ≡ whole)
          (omega (arith, w.if-more-gt0.false)) c.loop-place.invariant in
          rw (w.text-is, w.more-is, w.in_ok-more.ensures.text, w.in_ok-more.ensures.more, take_rest c.args.bytes.now c.loop-place.place)
          (is_begun c.loop-place.text.items whole c.args.bytes.now c.loop-place.place c.loop-place-test.true here)
    ]
