use Rattle.std.proofs.Common.{List, length, slice_get, ap, refl, subst, ◌∙◌}
use Rattle.indexmap.specs.{IndexMap.set_value_at, Layout.length-set_value_at}
use Rattle.portmap_table.specs.{Indexes.{Entry, Puts, active_entry}, declared.entries.NameEntry.TheVariants.Active}
use Rattle.portmap_table.proofs.Indexes.{kept_there, named_after, puts_written}
use Rattle.portmap_table.proofs.entries.Entries.activate.Goals as goal

puts : (c : goal.Joined-index_mut) → Puts c.self.inside.kept.entries
    (set_value_at c.self.inside.kept.entries c.args.index (Active c.args.row)) c.args.index (active_entry c.args.row)
puts c =
    let kept = kept_there c.args.row.reg.name c.args.self.now c.args.index c.requires in
    puts_written c.self.inside.kept.entries c.args.index c.args.row.reg.name kept.0 (Active c.args.row)
    (ap (λ (entries : List Entry). slice_get entries c.args.index) c.self.view_is ∙ kept.1)

pub invariant_of-self : goal.invariant_of-self
invariant_of-self c = named_after _ _ c.args.index (active_entry c.args.row) (puts c) refl c.self.invariant

pub returns-clause-puts : goal.returns-clause-puts
returns-clause-puts c = subst (λ (old : List Entry).
    Puts old (set_value_at c.self.inside.kept.entries c.args.index (Active c.args.row)) c.args.index
    (active_entry c.args.row)) c.self.view_is (puts c)

pub returns-clause-len : goal.returns-clause-len
returns-clause-len c = length-set_value_at c.self.inside.kept.entries c.args.index (Active c.args.row) ∙ ap length c.self.view_is
