use Rattle.std.proofs.Common.{refl}
use Rattle.portmap_command.proofs.faults.refuse_word.Goals as goal

pub returns : goal.returns
returns g c = (
  refl,
  (
    c.say_all.result,
    rw (← c.in_ok-word.ensures, ← c.as_slice.ensures.value) c.say_all.ensures.written,
    c.say_all.ensures.spent,
  ),
)
