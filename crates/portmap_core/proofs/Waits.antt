-- A connection that waits in a slot, and the answer to a chunk there.
use Rattle.std.proofs.Common.{◌≡◌, ℕ, Bool, List, ◌++◌, Some, subst, inl, inr, rules}
use Rattle.std.specs.FinMap as map
use Rattle.portmap_wire.specs.{Request.Spells, declared.request.Request.Request}
use Rattle.portmap_wire.proofs.RequestLaws.{one_request}
use Rattle.portmap_feed.specs.Stream.{Framing, More}
use Rattle.portmap_table.specs.Rows.{Names}
use Rattle.portmap_core.specs.Config.{Configuration}
use Rattle.portmap_core.specs.Serving.{MayGet, Served, Serves, ServesBody, ServesReceived, awaits, closed, served}
use Rattle.portmap_core.specs.{State.State, Step.{Expires, Effect, Says, Settles, settled}}
use Rattle.portmap_core.specs.declared.connection.Connection.{Connection}
use Rattle.portmap_core.specs.{declared.connection.Stage.TheVariants.{Waiting, Holding}, declared.event.Fate.Fate}

abbrev pub said : List ℕ → Fate → State → Effect
said reply fate after = record { reply = reply; fate = fate; state = after }

-- A machine in a state, with a connection in a slot that has sent these bytes.
pub record WaitsAt : Type 0 where
  pub config : Configuration
  pub state : State
  pub slot : ℕ
  pub connection : Connection
  pub received : List ℕ
  pub is_open : map.get state.connections slot ≡ Some connection
  pub stage : connection.stage ≡ Waiting received

-- The results of a body that spells a request are the results of the request.
module _ (cfg : Configuration) (names : Names) (local : Bool) (slot : ℕ) {body : List ℕ} {request : Request} {o : Served}
    (spells : Spells body request) where
  pub serves_spelled : ServesBody cfg names local slot body o → Serves cfg names local slot request o
  serves_spelled (inl p) =
      subst (λ (r : Request). Serves cfg names local slot r o) (one_request body p.request request p.spells spells) p.serves
  serves_spelled (inr p) = absurd (p.malformed request spells)

-- The effect of a chunk is that of all bytes received.
pub settles_at : (w : WaitsAt) {after : State} {piece reply : List ℕ} {fate : Fate}
    → Says w.config w.state w.slot piece reply fate after
    → Settles w.config w.state w.slot w.connection (w.received ++ piece) (said reply fate after)
settles_at w {after} {piece} {reply} {fate} says = search rules

-- A property of all possible results holds of the actual result.
module _ (cfg : Configuration) (names : Names) (local : Bool) (slot : ℕ) (P : Served → Type 0) where
  pub response_by : (received : List ℕ) (sight : Framing) (o : Served) → (sight ≡ More → P (awaits names received)) → P (closed names)
      → ((request : Request) (creation : ℕ)
      → ((served cfg names local slot request creation).stage ≡ Holding → MayGet names request creation)
      → P (served cfg names local slot request creation))
      → ServesReceived cfg names local slot received sight o → P o
  response_by received sight o waits refused each response = search rules

-- A property of the state and of all results holds after a chunk and after a timeout.
module _ (P : State → Type 0) where
  pub expires_leads : {s after : State} {slot : ℕ} {fate : Fate} → Expires s slot fate after → P s
      → ((connection : Connection) → P (settled s slot connection (closed s.names))) → P after
  expires_leads {s} {after} {slot} expires same each = search rules
