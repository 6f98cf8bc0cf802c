use Rattle.std.proofs.Common.{◌≡◌, ◌++◌, drop}
use Rattle.portmap_operator.specs.Showing.{shown, shown_behind}
use Rattle.portmap_operator.proofs.showing.put_shown.Given as goal

-- The text so far, followed by the text for the remaining bytes, is the whole text.
abbrev pub invariant-loop-place : goal.invariant-loop-place
invariant-loop-place l = l.text.items ++ shown_behind l.more (drop l.place l.bytes) ≡ l.fn.text.items ++ shown l.bytes
