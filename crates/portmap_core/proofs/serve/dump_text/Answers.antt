use Rattle.std.specs.Prelude.{map as list_map}
use Rattle.std.proofs.Common.{◌++◌, Some, sym, ap, ◌∙◌, rules}
use Rattle.portmap_wire.specs.{List.{dump_line, dump_reply}, Node.Node, Reply.be4}
use Rattle.portmap_table.specs.Rows.{retired_name}
use Rattle.portmap_core.specs.Serving.{active_line, retired_line}
use Rattle.portmap_core.proofs.Lines.{not_past, with_line}
use Rattle.portmap_core.proofs.serve.dump_text.Goals as goal

pub loop-i-preserved : goal.loop-i-preserved
loop-i-preserved c =
    with_line dump_line active_line c.args.table.now.names.active c.loop-i.i c.in-Some.row.now
    (sym c.in-Some.ensures) (be4 c.args.port) c.loop-i.invariant
    (c.in_ok-reply-2.ensures ∙ ap (λ (g : Node).
    c.loop-i.reply ++ dump_line (record { name = g.name; port = g.port; slot = Some c.in-Some.row.now.slot })) c.reg.view_is)

pub unreachable-requires-in_default-retired_at : goal.unreachable-requires-in_default-retired_at
unreachable-requires-in_default-retired_at c = search (rules, not_past)

pub loop-k-preserved : goal.loop-k-preserved
loop-k-preserved c =
    with_line dump_line retired_line c.args.table.now.names.retired c.loop-k.k (retired_name c.in-Some-retired_at.old)
    (sym c.in-Some-retired_at.ensures) (dump_reply c.args.port (list_map active_line c.args.table.now.names.active)) c.loop-k.invariant
    c.in_ok-reply-3.ensures
