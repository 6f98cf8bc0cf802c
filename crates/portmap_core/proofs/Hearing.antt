-- A machine with one connection answers bytes in several chunks as it answers them in one chunk.
use Rattle.std.specs.Ordering.{nat_cmp}
use Rattle.std.proofs.Common.{◌≡◌, ◌≢◌, ℕ, ◌≤◌, List, [], ◌++◌, Some, None, true, false, refl, sym, ap, ◌∙◌, arith}
use Rattle.std.proofs.Common.{rules}
use Rattle.std.specs.FinMap as map
use Rattle.portmap_feed.specs.Stream.{More, first_request}
use Rattle.portmap_core.specs.{Config.Configuration, Connections.ConnectionMap, Run.{Hears, waiting_state}}
use Rattle.portmap_core.specs.{Serving.Served, State.{State, empty_state, phase_at, phase_of_stage, state_of}}
use Rattle.portmap_core.specs.Step.{Opens, Effect, Says, Settles, halted_by, outcome_of}
use Rattle.portmap_core.specs.{declared.connection.Connection.Connection, declared.connection.Stage.TheVariants.Waiting}
use Rattle.portmap_core.specs.declared.event.Fate.{Fate}
use Rattle.portmap_core.proofs.{Slots.{get_inserted, insert_again, stopped_alike}, Waits.said}
use Rattle.portmap_core.specs.declared.connection.Phase.TheVariants as phase

-- The connection that has sent these bytes.
abbrev sender : List ℕ → Connection
sender read = record { local = true; stage = Waiting read }

-- The effect of a result does not depend on the bytes read before.
alike : (slot : ℕ) (a b : List ℕ) (o : Served)
    → outcome_of (waiting_state slot a) slot (sender a) o ≡ outcome_of (waiting_state slot b) slot (sender b) o
alike slot a b o = ap (λ (m : ConnectionMap). let x : Effect =
    record { reply = o.reply; fate = o.fate; state = state_of o.names m (halted_by o.fate false) } in x)
    (stopped_alike map.empty o.stopped slot (sender a) (sender b) (record { local = true; stage = o.stage }))

-- ---- for callers of the machine

-- A machine opens its first connection.
opens : (cfg : Configuration) (slot : ℕ) → 1 ≤ cfg.conn_max → Opens cfg empty_state true slot (waiting_state slot [])
opens cfg slot some = record {
  free = map.get-empty nat_cmp slot;
  room = let none : map.len empty_state.connections ≡ 0 = map.len-empty nat_cmp Connection in omega (arith, none);
  after = refl;
}

-- The connection that waits is open.
pub is_not_missed : (s : State) (slot : ℕ) (read : List ℕ) → s ≡ waiting_state slot read → map.get s.connections slot ≡ None → ⊥
is_not_missed s slot read e none = let both : Some (sender read) ≡ None =
    sym (ap (λ (x : State). map.get x.connections slot) e ∙ get_inserted map.empty slot (sender read)) ∙ none in cc

-- A chunk arrives on a connection that has sent other bytes.
module _ {cfg : Configuration} {s s' : State} {slot : ℕ} {piece reply : List ℕ} {fate : Fate} (read : List ℕ)
    (is : s ≡ waiting_state slot read) (says : Says cfg s slot piece reply fate s') where
  -- The effect is that of all bytes read.
  settles : Settles cfg (waiting_state slot read) slot (sender read) (read ++ piece) (said reply fate s')
  settles = search (rules, get_inserted)

  phase_left : phase_at s' slot ≡ Some (phase_of_stage settles.served.stage)
  phase_left = search (rules, get_inserted)

  -- The bytes get the same answer in one chunk.
  hears : 1 ≤ cfg.conn_max → Hears cfg (read ++ piece) reply fate
  hears some =
      let heard : Says cfg (waiting_state slot []) slot (read ++ piece) reply fate s' = record {
        connection = sender [];
        is_open = get_inserted map.empty slot (sender []);
        response = search (rules, alike, settles);
      } in
      record {
        slot = slot;
        after = s';
        run = (
          waiting_state slot [],
          record { runs = refl; moves = opens cfg slot some },
          (s', record { runs = refl; moves = heard }, refl),
        );
      }

  -- The connection stays open.
  pub stays_open : phase_at s' slot ≡ None → ⊥
  stays_open none = let both : Some (phase_of_stage settles.served.stage) ≡ None = sym phase_left ∙ none in cc

  -- If the connection still waits, the request is incomplete.
  pub says_more : phase_at s' slot ≡ Some phase.Waiting
      → (first_request (read ++ piece) ≡ More) × (s' ≡ waiting_state slot (read ++ piece))
  says_more waiting = search (rules, insert_again, phase_left, settles)

  -- If the connection no longer waits, the request is decided, and all bytes in one chunk get this answer.
  pub says_all : 1 ≤ cfg.conn_max → phase_at s' slot ≢ Some phase.Waiting
      → (first_request (read ++ piece) ≢ More) × Hears cfg (read ++ piece) reply fate
  says_all some other = search (rules, hears, phase_left)
