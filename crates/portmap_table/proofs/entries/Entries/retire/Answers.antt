use Rattle.std.proofs.Common.{◌≡◌, List, Some, length, slice_get, ap, ◌∙◌, rules}
use Rattle.indexmap.specs.{IndexMap.set_value_at, Layout.length-set_value_at}
use Rattle.portmap_table.specs.Indexes.{Entry, Puts, active_entry}
use Rattle.portmap_table.specs.{declared.entries.NameEntry.{NameEntry, TheVariants.{Active, Retired}}, declared.row.Row.Row}
use Rattle.portmap_table.proofs.Indexes.{named_after, puts_written, read_kept}
use Rattle.portmap_table.proofs.entries.Entries.retire.Goals as goal

abbrev retired : (c : goal.Joined-index_mut) → NameEntry
retired c = Retired c.row.inside.0.0.port c.row.inside.0.1.0

-- The row that is read is the row at this index.
is_row : (c : goal.Joined-index_mut) (row : Row) → slice_get c.args.self.now c.args.index ≡ Some (active_entry row) → c.in-Active.row ≡ row
is_row c row e = search (rules, read_kept)

puts : (c : goal.Joined-index_mut) (row : Row) → slice_get c.args.self.now c.args.index ≡ Some (active_entry row)
    → Puts c.self.inside.kept.entries (set_value_at c.self.inside.kept.entries c.args.index (retired c)) c.args.index
    (row.reg.name, retired c)
puts c row e = puts_written c.self.inside.kept.entries c.args.index row.reg.name (Active row) (retired c)
    (ap (λ (entries : List Entry). slice_get entries c.args.index) c.self.view_is ∙ e)

pub invariant_of-self : goal.invariant_of-self
invariant_of-self c = named_after _ _ c.args.index (c.requires.0.reg.name, retired c) (puts c c.requires.0 c.requires.1) tt c.self.invariant

pub returns-clause-puts : goal.returns-clause-puts
returns-clause-puts c row e = search (rules, is_row, puts)

pub returns-clause-len : goal.returns-clause-len
returns-clause-len c = length-set_value_at c.self.inside.kept.entries c.args.index (retired c) ∙ ap length c.self.view_is
