-- The name that a chunk asks to register, by its bytes alone. ERTS User's Guide, EPMD Protocol: ALIVE2_REQ.
use Rattle.std.specs.Prelude.{◌≡◌, ℕ, List}
use Rattle.portmap_wire.specs.{Node.Node, Request.Spells, declared.request.Request.TheVariants.Alive}
use Rattle.portmap_feed.specs.Stream.{Whole, first_request}

-- The first request in `bytes` is complete, and asks to register `name`.
pub record Registers (bytes name : List ℕ) : Type 0 where
  pub body : List ℕ
  pub node : Node
  pub whole : first_request bytes ≡ Whole body
  pub asks : Spells body (Alive node)
  pub named : node.name ≡ name
