use Rattle.std.proofs.Common.{arith, rules}
use Rattle.portmap_wire.proofs.ListingLemmas.{next_digit}
use Rattle.portmap_wire.proofs.list_reading.port_of.Goals as goal

pub overflow_mul-value : goal.overflow_mul-value
overflow_mul-value c = let n = next_digit c.args.digits.now c.loop-digit.digit-index c.requires (omega arith) (omega arith) in
    omega (arith, n.value, n.small, c.loop-digit.invariant)

pub overflow_sub-digit : goal.overflow_sub-digit
overflow_sub-digit c = search (rules, next_digit)

pub overflow_add-value : goal.overflow_add-value
overflow_add-value c = search (rules, next_digit)

pub loop-digit-preserved : goal.loop-digit-preserved
loop-digit-preserved c = search (rules, next_digit)
