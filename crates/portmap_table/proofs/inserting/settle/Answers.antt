use Rattle.std.proofs.{Common.{ℕ, List, [], ◌∷◌, length, ap, sym, subst, arith, rules}, lemmas.List.length-append}
use Rattle.std.proofs.lemmas.Option.{slice_get-get_or, slice_get_within}
use Rattle.portmap_table.specs.Indexes.{Entry, Puts, active_entry}
use Rattle.portmap_table.proofs.Indexes.{puts_last}
use Rattle.portmap_table.proofs.inserting.settle.Goals as goal

pub replace-requires-clause-index : goal.replace-requires-clause-index
replace-requires-clause-index c = search (rules, slice_get-get_or, slice_get_within)

pub returns-in_ok-push-in-None-clause-ok : goal.returns-in_ok-push-in-None-clause-ok
returns-in_ok-push-in-None-clause-ok c =
    let entries = c.args.entries.now in
    let entry = active_entry c.args.row in
    let pushed = c.in_ok-push-in-None.ensures.ok in
    record {
      puts = subst (λ (n : ℕ). Puts entries c.push.new.self n entry) (sym c.len-index.ensures.len)
          (subst (λ (new : List Entry). Puts entries new (length entries) entry) (sym pushed) (puts_last entries entry));
      count = omega (arith, ap length pushed, length-append entries (entry ∷ []));
      how = search rules;
    }
