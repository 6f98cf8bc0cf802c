use Rattle.std.proofs.{Common.arith, lemmas.Str.Parse.digit_at}
use Rattle.portmap_command.proofs.{Digits.next_digit, numbers.read_digits.Goals.then-digit-lt48-via-then-digit-lt48}
use Rattle.portmap_command.proofs.numbers.read_digits.Goals.{then-digit-lt48-via-else-digit-lt48+then-digit-gt57}
use Rattle.portmap_command.proofs.numbers.read_digits.Goals as goal

pub returns-then-digit-lt48-clause-none : goal.returns-then-digit-lt48-clause-none
returns-then-digit-lt48-clause-none c = λ _ number writes.
    let d = digit_at c.args.text.now c.loop-digit.digit-index writes.each (omega arith) in
    elim c.then-digit-lt48.branch [
      | then-digit-lt48-via-then-digit-lt48 w ↦ omega (arith, d)
      | then-digit-lt48-via-else-digit-lt48+then-digit-gt57 w ↦ omega (arith, d)
    ]

pub overflow_mul-value : goal.overflow_mul-value
overflow_mul-value c =
    let n = next_digit c.args.text.now c.loop-digit.digit-index (omega arith) (omega arith) c.loop-digit.invariant.each
    (omega arith, omega arith) in
    omega (arith, n.value, n.small, c.loop-digit.invariant.value)

pub overflow_add-value : goal.overflow_add-value
overflow_add-value c =
    let n = next_digit c.args.text.now c.loop-digit.digit-index (omega arith) (omega arith) c.loop-digit.invariant.each
    (omega arith, omega arith) in
    omega (arith, n.value, n.small, c.loop-digit.invariant.value, c.from.ensures)

pub loop-digit-preserved : goal.loop-digit-preserved
loop-digit-preserved c =
    let n = next_digit c.args.text.now c.loop-digit.digit-index (omega arith) (omega arith) c.loop-digit.invariant.each
    (omega arith, omega arith) in
    record { each = n.each; value = omega (arith, n.value, c.loop-digit.invariant.value, c.from.ensures) }
