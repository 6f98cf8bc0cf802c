-- Each transition keeps that every active name belongs to exactly one open connection, which holds it.
use Rattle.std.specs.{Cmp.nat_cmp_total, Ordering.nat_cmp, Prelude.{is_some, ◌==◌, position}}
use Rattle.std.proofs.Common.{◌≡◌, ◌≢◌, ℕ, ◌+◌, ◌<◌, ◌≤◌, Bool, true, false, cond, List, [], ◌++◌, Option, Some}
use Rattle.std.proofs.{Common.{None, refl, sym, ap, subst, ◌∙◌, arith, inl, inr, rules}, lemmas.Bool.cases_eq}
use Rattle.std.specs.FinMap as map
use Rattle.portmap_wire.specs.Node.{Node}
use Rattle.portmap_wire.specs.declared.request.Request.{Request, TheVariants.{Alive, Dump, Kill, Port, Stop}}
use Rattle.portmap_wire.specs.declared.request.Request.TheVariants as request
use Rattle.portmap_feed.specs.Stream.{first_request}
use Rattle.portmap_table.specs.Rows.{AreKept, owns_name, is_active, is_full_for, registered, retired_of, with_room}
use Rattle.portmap_table.proofs.{NameEntry.{IsNew, kept_empty, kept_enters, kept_retired}, Owners.owns_in_room}
use Rattle.portmap_table.proofs.Owners.{owns_registered, owns_registered_other, owns_retired, owns_retired_other}
use Rattle.portmap_table.specs.Rows as rows
use Rattle.portmap_core.specs.{Config.Configuration, Connections.{ConnectionMap, at_stage, ended_at}}
use Rattle.portmap_core.specs.{Entry.{Closed, Connected, Faulted, Late, Piece}, Laws.StepsKeepOwned}
use Rattle.portmap_core.specs.Owned.{IsStageFor, IsSlotFor, IsOwned}
use Rattle.portmap_core.specs.Serving.{MayGet, Served, ServesReceived, closed, if_local, registers, served, stops}
use Rattle.portmap_core.specs.State.{State, empty_state, state_of}
use Rattle.portmap_core.specs.Step.{Leaves, Opens, Effect, AnswersPiece, late_at, settled}
use Rattle.portmap_core.specs.declared.connection.Connection.{Connection}
use Rattle.portmap_core.specs.declared.connection.Stage.{Stage, TheVariants.{Done, Holding, Waiting}}
use Rattle.portmap_core.proofs.Slots.{cut_other, cut_same, ended_open, put_other, put_same}
use Rattle.portmap_core.proofs.Waits.{WaitsAt, said, response_by}

-- ---- every slot

abbrev pub AreSlotsFor : rows.Names → ConnectionMap → Type 0
AreSlotsFor names connections = (q : ℕ) → IsSlotFor (owns_name q names) (map.get connections q)

-- Only `slot` gains or loses a name.
record Turns (names after : rows.Names) (connections : ConnectionMap) (slot : ℕ) : Type 0 where
  others : (q : ℕ) → q ≢ slot → owns_name q after ≡ owns_name q names
  all : AreSlotsFor names connections

module _ {names after : rows.Names} {connections : ConnectionMap} {slot : ℕ} (turns : Turns names after connections slot) where
  -- Only `slot` is written.
  slots_by : (m : ConnectionMap) → ((q : ℕ) → q ≢ slot → map.get m q ≡ map.get connections q)
      → IsSlotFor (owns_name slot after) (map.get m slot) → AreSlotsFor after m
  slots_by m same here = λ q. elim (cases_eq q slot) [
    | inl e ↦ subst (λ (x : ℕ). IsSlotFor (owns_name x after) (map.get m x)) (sym e) here
    | inr ne ↦ rw (turns.others q ne, same q ne) (turns.all q)
  ]

  -- A connection is written.
  slots_with : (connection : Connection) → IsSlotFor (owns_name slot after) (Some connection)
      → AreSlotsFor after (map.insert connections slot connection)
  slots_with connection here = search (rules, put_other, put_same, slots_by)

  -- A connection is removed.
  slots_without : owns_name slot after ≡ false → AreSlotsFor after (map.remove connections slot)
  slots_without here = search (rules, cut_other, cut_same, slots_by)

-- No name changes.
stays : (names : rows.Names) {connections : ConnectionMap} (slot : ℕ) → AreSlotsFor names connections → Turns names names connections slot
stays names slot all = record { others = λ q ne. refl; all = all }

-- ---- the number of open connections

len_open : (connections : ConnectionMap) (slot : ℕ) (connection here : Connection) → map.get connections slot ≡ Some here
    → map.len (map.insert connections slot connection) ≡ map.len connections
len_open connections slot connection here e = map.len-insert nat_cmp_total connections slot connection
    ∙ ap (λ (o : Option Connection). cond (is_some o) (map.len connections) (map.len connections + 1)) e

pub len_fresh : (connections : ConnectionMap) (slot : ℕ) (connection : Connection) → map.get connections slot ≡ None
    → map.len (map.insert connections slot connection) ≡ map.len connections + 1
len_fresh connections slot connection e = map.len-insert nat_cmp_total connections slot connection
    ∙ ap (λ (o : Option Connection). cond (is_some o) (map.len connections) (map.len connections + 1)) e

len_less : (connections : ConnectionMap) (slot : ℕ) → map.len (map.remove connections slot) ≤ map.len connections
len_less connections slot = rw (map.len-remove nat_cmp_total connections slot) (search rules)

-- ---- states

pub owned_empty : (cfg : Configuration) → IsOwned cfg empty_state
owned_empty cfg = record {
  names = kept_empty cfg.known_max;
  few = omega (arith, map.len-empty nat_cmp Connection);
  slots = λ q. rw (map.get-empty nat_cmp q) refl;
}

-- ---- requests

-- The registration of a name ends.
module _ {cfg : Configuration} {s : State} (owned : IsOwned cfg s) (owner : ℕ) where
  gone : owns_name owner (retired_of owner s.names) ≡ false
  gone = owns_retired owner s.names owned.names.owners

  retires : Turns s.names (retired_of owner s.names) s.connections owner
  retires = record { others = λ q ne. owns_retired_other q owner s.names owned.names.owners ne; all = owned.slots }

  kept_names : AreKept cfg.known_max (retired_of owner s.names)
  kept_names = kept_retired cfg.known_max s.names (position (λ row. row.slot == owner) s.names.active) owned.names

  -- The slots agree, whether its connection is open or not.
  ended_slots : (o : Option Connection) → map.get s.connections owner ≡ o
      → AreSlotsFor (retired_of owner s.names) (ended_at owner o s.connections)
  ended_slots None e = slots_by retires s.connections (λ q ne. refl) (rw e gone)
  ended_slots (Some connection) e = slots_with retires (at_stage connection Done) gone

pub ended_len : (connections : ConnectionMap) (owner : ℕ) (o : Option Connection) → map.get connections owner ≡ o
    → map.len (ended_at owner o connections) ≡ map.len connections
ended_len connections owner o e = search (rules, len_open)

pub waiting_free : (b : Bool) (o : Option Connection) {connection : Connection} {received : List ℕ} → o ≡ Some connection
    → connection.stage ≡ Waiting received → IsSlotFor b o → b ≡ false
waiting_free b o here waits h = search rules

-- A waiting connection.
module _ (w : WaitsAt) (owned : IsOwned w.config w.state) where
  open w use {config as cfg, state as s, slot, connection}

  -- The connection owns no name.
  free : owns_name slot s.names ≡ false
  free = waiting_free (owns_name slot s.names) (map.get s.connections slot) w.is_open w.stage (owned.slots slot)

  -- The connection may take any stage that fits a slot without a name.
  stays_owned : (stage : Stage) (halted : Bool) → IsStageFor false connection.local stage
      → IsOwned cfg (state_of s.names (map.insert s.connections slot (at_stage connection stage)) halted)
  stays_owned stage halted fits = record {
    names = owned.names;
    few = rw (len_open s.connections slot (at_stage connection stage) connection w.is_open) owned.few;
    slots = slots_with (stays s.names slot owned.slots) (at_stage connection stage) (rw free fits);
  }

  closed_owned : IsOwned cfg (settled s slot connection (closed s.names))
  closed_owned = stays_owned Done s.halted refl

  register_owned : (g : Node) (creation : ℕ) → connection.local ≡ true → is_active g.name s.names ≡ false
      → is_full_for cfg.known_max g.name s.names ≡ false → MayGet s.names (Alive g) creation
      → IsOwned cfg (settled s slot connection (registers cfg.known_max s.names slot g creation))
  register_owned g creation local inactive fits legal =
      let room = with_room cfg.known_max g.name s.names in
      let new : IsNew cfg.known_max s.names g creation slot = search rules in
      let turns : Turns s.names (registered g creation slot room) s.connections slot = record {
        others = λ q ne. owns_registered_other q g creation slot room ne ∙ owns_in_room cfg.known_max g.name q s.names;
        all = owned.slots;
      } in
      record {
        names = kept_enters new fits;
        few = rw (len_open s.connections slot (at_stage connection Holding) connection w.is_open) owned.few;
        slots = slots_with turns (at_stage connection Holding) (owns_registered g creation slot room, local);
      }

  stop_owned : (o : Option ℕ) → IsOwned cfg (settled s slot connection (stops s.names o))
  stop_owned None = closed_owned
  stop_owned (Some owner) =
      let still : owns_name slot (retired_of owner s.names) ≡ false = elim (cases_eq slot owner) [
        | inl same ↦ ap (λ (x : ℕ). owns_name x (retired_of owner s.names)) same ∙ gone owned owner
        | inr ne ↦ (retires owned owner).others slot ne ∙ free
      ] in
      let ends = ended_slots owned owner (map.get s.connections owner) refl in
      let open_then = ended_open s.connections owner slot (map.get s.connections owner) connection refl w.is_open in
      record {
        names = kept_names owned owner;
        few = search (rules, len_open);
        slots = slots_with (stays (retired_of owner s.names) slot ends) (at_stage connection Done) still;
      }

  -- The result keeps the invariant if a connection that is to hold its name may have its creation.
  abbrev KeepsBy : Type 0 → Served → Type 0
  KeepsBy P o = (o.stage ≡ Holding → P) → IsOwned cfg (settled s slot connection o)

  keeps_by : (P : Type 0) (b : Bool) (x y : Served) → (b ≡ true → KeepsBy P x) → (b ≡ false → KeepsBy P y) → KeepsBy P (cond b x y)
  keeps_by o b x y f g = search rules

  local_owned : (P : Type 0) (response : Served) → (connection.local ≡ true → KeepsBy P response)
      → KeepsBy P (if_local connection.local s.names response)
  local_owned P response f = search (rules, closed_owned)

  served_owned : (request : Request) (creation : ℕ)
      → KeepsBy (MayGet s.names request creation) (served cfg s.names connection.local slot request creation)
  served_owned request.Names creation = λ _. closed_owned
  served_owned (Port name) creation = λ _. closed_owned
  served_owned Dump creation = local_owned _ _ (λ _ _. closed_owned)
  served_owned Kill creation = search (rules, closed_owned)
  served_owned (Stop name) creation = search (rules, closed_owned, stop_owned)
  served_owned (Alive g) creation = search (rules, closed_owned, keeps_by, local_owned, register_owned)

  -- ---- chunks

  sight_owned : (received : List ℕ) (o : Served) → ServesReceived cfg s.names connection.local slot received (first_request received) o
      → IsOwned cfg (settled s slot connection o)
  sight_owned received o = response_by cfg s.names connection.local slot (λ x. IsOwned cfg (settled s slot connection x)) received
      (first_request received) o (λ more. stays_owned (Waiting received) s.halted (refl, more)) closed_owned served_owned

by_outcome : (cfg : Configuration) (o p : Effect) → o ≡ p → IsOwned cfg p.state → IsOwned cfg o.state
by_outcome cfg o p e owned = subst (λ (x : Effect). IsOwned cfg x.state) (sym e) owned

-- An open connection.
module _ {cfg : Configuration} {s : State} (owned : IsOwned cfg s) (slot : ℕ) {connection : Connection}
    (here : map.get s.connections slot ≡ Some connection) where
  abbrev waits : (received : List ℕ) → connection.stage ≡ Waiting received → WaitsAt
  waits received stage = search rules

  response_owned : (piece : List ℕ) (stage : Stage) (o : Effect) → connection.stage ≡ stage
      → AnswersPiece cfg s slot connection piece stage o
      → IsOwned cfg o.state
  response_owned piece (Waiting received) o stage response =
      by_outcome cfg o _ response.outcome (sight_owned (waits received stage) owned (received ++ piece) response.served response.response)
  response_owned piece stage o is response = by_outcome cfg o _ response owned

  late_owned : (stage : Stage) → connection.stage ≡ stage → IsOwned cfg (late_at s slot connection stage).state
  late_owned (Waiting received) stage = closed_owned (waits received stage) owned
  late_owned stage is = owned

-- ---- the other entries

open_owned : (cfg : Configuration) (s s' : State) (local : Bool) (slot : ℕ) → IsOwned cfg s → Opens cfg s local slot s' → IsOwned cfg s'
unfolding first_request
open_owned cfg s s' local slot owned opens =
    let connection : Connection = record { local = local; stage = Waiting [] } in
    let fresh : map.len (map.insert s.connections slot connection) ≡ map.len s.connections + 1 =
    len_fresh s.connections slot connection opens.free in
    let room : map.len s.connections < cfg.conn_max = opens.room in
    subst (λ (x : State). IsOwned cfg x) (sym opens.after) (record {
      names = owned.names;
      few = omega arith;
      slots = slots_with (stays s.names slot owned.slots) connection
          (rw opens.free at (owned.slots slot), refl);
    })

leave_owned : (cfg : Configuration) (s s' : State) (slot : ℕ) → IsOwned cfg s → Leaves s slot s' → IsOwned cfg s'
leave_owned cfg s s' slot owned leaves =
    let few : map.len s.connections ≤ cfg.conn_max = owned.few in
    subst (λ (x : State). IsOwned cfg x) (sym leaves.after) (record {
      names = kept_names owned slot;
      few = omega (arith, len_less s.connections slot);
      slots = slots_without (retires owned slot) (gone owned slot);
    })

pub steps_keep : StepsKeepOwned
steps_keep cfg s s' (Connected local slot) owned step = open_owned cfg s s' local slot owned step.moves
steps_keep cfg s s' (Piece slot piece reply fate) owned step = search (rules, response_owned)
steps_keep cfg s s' (Closed slot) owned step = leave_owned cfg s s' slot owned step.moves
steps_keep cfg s s' (Faulted slot) owned step = leave_owned cfg s s' slot owned step.moves
steps_keep cfg s s' (Late slot fate) owned step =
    by_outcome cfg (said [] fate s') _ step.moves.response (late_owned owned slot step.moves.is_open step.moves.connection.stage refl)
