use Rattle.portmap_client.specs.Exchange.{IsRead, view}
use Rattle.portmap_client.proofs.Calling.{not_asked, heard}
use Rattle.portmap_client.proofs.exchange.exchange.Goals as goal

pub returns-in_err-met : goal.returns-in_err-met
returns-in_err-met g c =
    let seen = view g.S.Device.left g.S.Device.held g.S.Device.pulls g.S.Device.puts g.S.Device.broken in
    let e = c.in_err-met.ensures in
    not_asked c.args.request.now c.args.awaited IsRead (seen c.args.stream.now)
    (seen c.ask.new.stream) c.in_err-met.field-0.0 c.from_residual.result c.from_residual.ensures.1 e.writes e.waited e.broken e.left
    e.pulls

pub returns : goal.returns
returns g c =
    let seen = view g.S.Device.left g.S.Device.held g.S.Device.pulls g.S.Device.puts g.S.Device.broken in
    let asked = c.in_ok-met.ensures in
    let heard_so = c.hear.ensures in
    heard c.args.request.now c.args.awaited IsRead (seen c.args.stream.now) (seen c.ask.new.stream)
    (seen c.hear.new.stream) c.in_ok-met.met c.hear.result
    asked.writes heard_so.held heard_so.reads asked.left asked.pulls heard_so.heard asked.waited.1 heard_so.waits heard_so.broken
