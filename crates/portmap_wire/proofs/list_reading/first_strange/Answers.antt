use Rattle.std.proofs.{Common.{[], ◌∷◌, ◌++◌, length, ap, arith, rules}, lemmas.List.{length-append, length_push}}
use Rattle.portmap_wire.proofs.LineLemmas.{strange_uncut, strange_cut, one_more}
use Rattle.portmap_wire.proofs.list_reading.first_strange.Goals as goal

pub loop-rest-preserved : goal.loop-rest-preserved
loop-rest-preserved c =
    let met = c.loop-rest.invariant.met in
    let reads = c.if-is_line.ensures in
    let cut = c.in-Some.ensures.found in
    record {
      met = (
        met.0 ++ reads.0 ∷ [],
        one_more met.0 c.args.text.now c.loop-rest.rest.now c.in-Some.front.now c.in-Some.after.now reads.0 met.1 cut reads.1,
        omega (arith, met.2, length_push met.0 reads.0),
      );
      few = omega (arith, c.loop-rest.invariant.few, ap length cut.text_is, length-append c.in-Some.front.now (10 ∷ c.in-Some.after.now));
    }

pub returns-in_default-clause-found : goal.returns-in_default-clause-found
returns-in_default-clause-found c = search (rules, strange_cut)

pub returns-in_default-2-clause-found : goal.returns-in_default-2-clause-found
returns-in_default-2-clause-found c = search (rules, strange_uncut)
