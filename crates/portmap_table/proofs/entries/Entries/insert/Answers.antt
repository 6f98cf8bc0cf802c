use Rattle.std.proofs.Common.{◌≡◌, List, [], ◌∷◌, ◌++◌, length, sym, ap, subst, ◌∙◌, rules}
use Rattle.indexmap.proofs.CallerLemmas.{insert_entry-new}
use Rattle.portmap_table.specs.Indexes.{AreNamed, Entry}
use Rattle.portmap_table.proofs.Indexes.{new_found, named_after, puts_last}
use Rattle.portmap_table.proofs.entries.Entries.insert.Goals as goal

abbrev entry : (c : goal.Joined-insert-2) → Entry
entry c = (c.args.name, c.args.kept)

pushed : (c : goal.Joined-insert-2) → c.insert.new.self.entries ≡ c.self.inside.kept.entries ++ entry c ∷ []
pushed c = search (rules, insert_entry-new, new_found)

pub returns-in-Ok-clause-ok : goal.returns-in-Ok-clause-ok
returns-in-Ok-clause-ok c = pushed c ∙ ap (λ (entries : List Entry). entries ++ entry c ∷ []) c.self.view_is

pub invariant_of-self : goal.invariant_of-self
invariant_of-self c =
    subst (λ (entries : List Entry). AreNamed entries) (sym (pushed c))
    (named_after _ _ (length c.self.inside.kept.entries) (entry c)
    (puts_last c.self.inside.kept.entries (entry c)) c.requires.named c.self.invariant)
