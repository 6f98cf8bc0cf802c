-- The result of a push.
use Rattle.portmap_feed.specs.{Stream.{Framing, More, Zero, TooLarge, Whole}, declared.feed.Seen.Seen}
use Rattle.portmap_feed.specs.declared.feed.LengthFault.TheVariants as faults
use Rattle.portmap_feed.specs.declared.feed.Seen.TheVariants as seen

abbrev pub seen_of : Framing → Seen
seen_of More = seen.More
seen_of Zero = seen.Bad faults.Zero
seen_of (TooLarge n) = seen.Bad (faults.TooLarge n)
seen_of (Whole body) = seen.Whole
