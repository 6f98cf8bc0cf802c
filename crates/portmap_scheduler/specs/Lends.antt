-- The value of the scheduler after a mutable borrow of a link ends.
use Rattle.std.specs.{Borrow.{Lends, LendsIf, Fml, RattleType, MutBor}, Prelude.{ℕ, Option}}
use Rattle.portmap_scheduler.specs.{Links.{Links, written}, contracts.Scheduler.the_row}

module _ (T : RattleType) where
  module _ (s : MutBor (Links T.Denot)) (key : ℕ) where
    -- The link under `key` has the last value written through `r`, and the state that it had.
    abbrev pub lends_value : MutBor T.Denot → Fml
    lends_value r = Lends (the_row T) T s r (written key s.now)

    -- If a link was lent, `lends_value` holds. Otherwise nothing changes.
    abbrev pub lends_link : Option (MutBor T.Denot) → Fml
    lends_link r = LendsIf (the_row T) T s r (written key s.now) s.now
