use Rattle.std.proofs.Common.{arith, rules}
use Rattle.portmap_table.proofs.NameEntry.{kept_empty}
use Rattle.portmap_table.proofs.table.Table.new.Goals as goal

pub invariant_of-result : goal.invariant_of-result
invariant_of-result c = (
  search rules,
  search rules,
  rw (c.new.ensures, c.new-2.ensures.items, c.new-3.ensures.items) (kept_empty c.args.known_max),
  (omega (arith, c.max.ensures), omega (arith, c.max.ensures, c.ranges.first.fits)),
  c.ranges.known_max.fits,
)

pub returns-clause-kept : goal.returns-clause-kept
returns-clause-kept c = rw (c.new.ensures, c.new-2.ensures.items, c.new-3.ensures.items) (kept_empty c.args.known_max)
