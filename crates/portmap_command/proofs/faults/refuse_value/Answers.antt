use Rattle.std.proofs.Common.{refl}
use Rattle.portmap_command.proofs.faults.refuse_value.Goals as goal

pub returns : goal.returns
returns g c = (
  refl,
  (
    c.say_all.result,
    rw (
      ← c.saturating_sub-before.ensures,
      ← c.in_ok-word.ensures,
      ← c.in_ok-given.ensures,
      ← c.word_at.ensures,
      ← c.value_of-value.ensures,
      ← c.as_slice.ensures.value,
      ← c.as_slice-2.ensures.value,
    ) c.say_all.ensures.written,
    c.say_all.ensures.spent,
  ),
)
