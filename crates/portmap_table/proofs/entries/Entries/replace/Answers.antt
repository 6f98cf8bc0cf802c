use Rattle.std.specs.Prelude.{swap_remove}
use Rattle.std.proofs.Common.{◌≡◌, List, [], ◌∷◌, ◌++◌, Option, Some, None, IfSome, slice_get, sym, ap, refl, subst}
use Rattle.std.proofs.{Common.{◌∙◌, arith}, lemmas.List.length-append, lemmas.Option.{none-some, slice_get-get_or}}
use Rattle.portmap_table.specs.Indexes.{AreNamed, Entry, Puts, active_entry}
use Rattle.portmap_table.proofs.Indexes.{named_after, named_before, puts_swapped}
use Rattle.portmap_table.proofs.entries.Entries.replace.Goals as goal

pushed : (c : goal.Joined-swap_remove_index) → c.self.inside.kept.entries ≡ c.args.self.now ++ active_entry c.args.row ∷ []
pushed c = c.self.view_is ∙ c.in_ok-push.ensures.ok

-- The effect of the replacement, by the entry that was removed.
swapped : (c : goal.Joined-swap_remove_index) → (result : Option Entry) → result ≡ slice_get c.self.inside.kept.entries c.args.index
    → IfSome result (λ (entry : Entry). c.swap_remove_index.new.self.entries ≡ swap_remove c.self.inside.kept.entries c.args.index entry)
    → Puts c.args.self.now c.swap_remove_index.new.self.entries c.args.index (active_entry c.args.row)
swapped c None e is =
    let there = slice_get-get_or (c.args.self.now ++ active_entry c.args.row ∷ []) c.args.index (active_entry c.args.row)
    (omega (arith, c.requires.index, length-append c.args.self.now (active_entry c.args.row ∷ []))) in
    absurd (none-some _ (e ∙ ap (λ (entries : List Entry). slice_get entries c.args.index) (pushed c) ∙ there))
swapped c (Some entry) e is =
    subst (λ (new : List Entry). Puts c.args.self.now new c.args.index (active_entry c.args.row))
    (sym (is ∙ ap (λ (entries : List Entry). swap_remove entries c.args.index entry) (pushed c)))
    (puts_swapped c.args.self.now (active_entry c.args.row) entry c.args.index c.requires.index)

puts : (c : goal.Joined-swap_remove_index)
    → Puts c.args.self.now c.swap_remove_index.new.self.entries c.args.index (active_entry c.args.row)
puts c = swapped c c.swap_remove_index.result c.swap_remove_index.ensures.entry c.swap_remove_index.ensures.entries

pub invariant_of-self : goal.invariant_of-self
invariant_of-self c =
    named_after _ _ c.args.index (active_entry c.args.row) (puts c) refl
    (named_before c.args.self.now (active_entry c.args.row) (subst AreNamed (pushed c) c.self.invariant))

pub returns-clause-ok : goal.returns-clause-ok
returns-clause-ok c = puts c
