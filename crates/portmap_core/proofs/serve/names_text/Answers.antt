use Rattle.std.proofs.Common.{◌++◌, sym, ap, ◌∙◌}
use Rattle.portmap_wire.specs.{List.names_line, Node.Node, Reply.be4}
use Rattle.portmap_core.specs.Serving.{names_line_of}
use Rattle.portmap_core.proofs.Lines.{with_line}
use Rattle.portmap_core.proofs.serve.names_text.Goals as goal

pub loop-i-preserved : goal.loop-i-preserved
loop-i-preserved c =
    with_line names_line names_line_of c.args.table.now.names.active c.loop-i.i c.in-Some.row.now
    (sym c.in-Some.ensures) (be4 c.args.port) c.loop-i.invariant
    (c.in_ok-reply-2.ensures ∙ ap (λ (g : Node). c.loop-i.reply ++ names_line (record { name = g.name; port = g.port })) c.reg.view_is)
