use Rattle.std.proofs.{Common.{◌<◌, ◌≤◌, ◌-◌, length, ap, ◌∙◌, arith, rules}, lemmas.List.{length-drop, length_push}}
use Rattle.portmap_link.specs.{Limit.left_in, declared.device.Put.TheVariants.Wrote}
use Rattle.portmap_link.proofs.{PutsOn.{has_put_more, left_less, left_for_later}, Sending.appends_more}
use Rattle.portmap_link.proofs.putting.send_all.Goals as goal

pub loop-count-preserved-in-Wrote : goal.loop-count-preserved-in-Wrote
loop-count-preserved-in-Wrote g c =
    let kept = c.loop-count.invariant in
    let bytes = c.args.bytes.now in
    let count = c.loop-count.count in
    let laters = c.loop-count.laters in
    let n = c.in-Wrote.n in
    let outcome = c.in-Wrote.ensures in
    let put = rw c.split_at.ensures.back at outcome.bytes in
    let after = rw c.in-Wrote.is at c.after-left.ensures in
    let due : 0 < left_in c.loop-count.left = search rules in
    let size = length bytes - count in
    let within : n ≤ length bytes - count = omega (arith, put.1, length-drop count bytes) in
    record {
      within = omega (arith, within, c.loop-count-test.true);
      written = search (rules, appends_more);
      put = search (rules, has_put_more);
      few = omega (arith, kept.few, ap left_in after, left_less c.loop-count.left (Wrote n));
      calls = search (rules, length_push);
      broken = search rules;
      left = search rules;
      pulls = outcome.pulls ∙ kept.pulls;
    }

pub loop-count-preserved : goal.loop-count-preserved
loop-count-preserved g c =
    let kept = c.loop-count.invariant in
    let bytes = c.args.bytes.now in
    let count = c.loop-count.count in
    let laters = c.loop-count.laters in
    let size = length bytes - count in
    let outcome = c.in-Later.ensures in
    let after = rw c.in-Later.is at c.after-left.ensures in
    let due : 0 < left_in c.loop-count.left = search rules in
    record {
      within = kept.within;
      written = search rules;
      put = search (rules, has_put_more);
      few = omega (arith, kept.few, ap left_in after, left_for_later c.loop-count.left due);
      calls = search (rules, length_push);
      broken = search rules;
      left = search rules;
      pulls = outcome.pulls ∙ kept.pulls;
    }
