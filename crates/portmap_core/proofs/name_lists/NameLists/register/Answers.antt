use Rattle.std.specs.Prelude.{nat_le, position}
use Rattle.std.proofs.Common.{◌≡◌, ◌∷◌, ◌++◌, ◌+◌, [], false, rules, ap, ◌∙◌}
use Rattle.portmap_table.specs.Rows.{Names, is_active, known_len, registered, with_room}
use Rattle.portmap_table.proofs.NameEntry.{had_name}
use Rattle.portmap_core.specs.Names.{left_by}
use Rattle.portmap_core.proofs.Names.{enters}
use Rattle.portmap_core.proofs.name_lists.NameLists.register.Goals as goal

pub returns-clause-ok : goal.returns-clause-ok
returns-clause-ok c =
    let names : Names = record { active = c.self.inside.active.items; retired = c.self.inside.retired.items } in
    let row = c.args.row in
    let inactive : is_active row.reg.name names ≡ false = search rules in
    let rows : c.push_reserved.new.self.items ≡ names.active ++ row ∷ [] = search rules in
    let many : nat_le c.args.known_max (c.len-2.result + c.len-3.result) ≡ nat_le c.args.known_max (known_len names) =
    ap (nat_le c.args.known_max) (let n : c.len-2.result + c.len-3.result ≡ known_len names = search rules in n) in
    let olds : c.make_way.new.retired.items
    ≡ left_by (position (had_name row.reg.name) names.retired) (nat_le c.args.known_max (known_len names)) names.retired =
    c.make_way.ensures ∙ (λ i. left_by (position (had_name (c.row.view_is i).reg.name) (c.reserve.ensures.items i)) (many i)
    (c.reserve.ensures.items i)) in
    (λ i. let after : Names = record { active = rows i; retired = olds i } in after) ∙ enters c.args.known_max names row inactive
    ∙ ap (λ (n : Names). registered row.reg row.creation row.slot (with_room c.args.known_max row.reg.name n)) c.self.view_is
