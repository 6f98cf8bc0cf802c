use Rattle.std.proofs.{Common.{◌<◌, [], length, arith}, lemmas.List.take_more}
use Rattle.portmap_command.proofs.Lists.{with_each_more}
use Rattle.portmap_command.proofs.addresses.listening.Goals as goal

pub loop-address-preserved : goal.loop-address-preserved
loop-address-preserved c =
    let lt : c.loop-address.address-index < length c.args.listed.now = omega arith in
    let more = take_more c.args.listed.now c.loop-address.address-index [] lt in
    rw (more, with_each_more) (cc (c.in_ok-add.ensures, c.loop-address.invariant))
