use Rattle.std.proofs.{Common.{◌≡◌, ◌≤◌, ◌++◌, length, take, sym, subst, rules}, lemmas.List.take-append-le}
use Rattle.portmap_link.proofs.Asking.{on_more}
use Rattle.portmap_client.specs.Exchange.{HasRead, IsRead}
use Rattle.portmap_client.proofs.{Counting.pulled, Reading.{reads_front, stops}, exchange.hear.Given.Over}
use Rattle.portmap_client.proofs.exchange.hear.Goals.{In-Piece}
use Rattle.portmap_client.proofs.exchange.hear.Goals as goal

-- With the chunk, no byte after the reply was read.
with_piece : (g : Over) (c : In-Piece g)
    → HasRead c.args.awaited (g.S.Device.left c.args.stream.now) (g.S.Device.left c.pull.new.self)
    (c.loop-laters.read.items ++ take c.in-Piece.count c.pull.new.buffer)
with_piece g c =
    let client_result = c.in-Piece.ensures.bytes in
    let small : length c.pull.new.buffer ≤ c.missing.result = search rules in
    reads_front c.args.awaited (g.S.Device.left c.args.stream.now) (g.S.Device.left c.loop-laters.stream)
    (g.S.Device.left c.pull.new.self) c.loop-laters.read.items c.deref.result.now c.pull.new.buffer c.in-Piece.count c.missing.result
    c.loop-laters.invariant.has_read client_result.2 small c.deref.ensures.value c.missing.ensures.missing

pub loop-laters-preserved-in-Continue-1 : goal.loop-laters-preserved-in-Continue-1
loop-laters-preserved-in-Continue-1 g c =
    let inv = c.loop-laters.invariant in
    let at = (goal.at.loop-laters-preserved-in-Continue-1 g c).In-Piece in
    let noted = c.in-Piece.ensures.noted in
    let same : c.extend_from_slice.new.self.items ≡ c.loop-laters.read.items ++ take c.in-Piece.count c.pull.new.buffer =
    rw (take-append-le c.in-Piece.count c.pull.new.buffer _ c.in-Piece.ensures.bytes.1) at c.in_ok-extend_from_slice-in-Piece.ensures.items
    in
    record {
      few = inv.few;
      has_read = subst (HasRead c.args.awaited (g.S.Device.left c.args.stream.now) (g.S.Device.left c.pull.new.self)) (sym same)
          (with_piece g at);
      on = search (rules, on_more);
      waited = search (rules, pulled);
      held = search rules;
    }

pub returns-in_err-extend_from_slice-in-Piece-clause-heard : goal.returns-in_err-extend_from_slice-in-Piece-clause-heard
returns-in_err-extend_from_slice-in-Piece-clause-heard g c =
    let at = (goal.at.returns-in_err-extend_from_slice-in-Piece-clause-heard g c).In-Piece in
    stops c.args.awaited IsRead (g.S.Device.left c.args.stream.now) (g.S.Device.left c.pull.new.self) (g.S.Device.pulls c.args.stream.now)
    (g.S.Device.pulls c.pull.new.self)
    (c.loop-laters.read.items ++ take c.in-Piece.count c.pull.new.buffer) c.from_residual.result c.from_residual.ensures.0 (with_piece g at)
