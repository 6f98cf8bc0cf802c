use Rattle.std.proofs.Common.{ap, arith, length}
use Rattle.portmap_client_c.proofs.ListSizes.{list_is_short}
use Rattle.portmap_client_c.proofs.calls.names.Goals as goal

pub put_list-requires : goal.put_list-requires
put_list-requires g c =
    let said = c.in-Ok.ensures.answered.says in
    omega (
      arith,
      ap length c.deref.ensures.value,
      list_is_short c.in-Ok.ensures.answered.read c.in-Ok.port c.in-Ok.lines.items said.1,
      said.0,
    )
