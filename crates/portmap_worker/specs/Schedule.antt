-- The wait of a queued link until it is served: profile.
use Rattle.std.specs.Prelude.{◌≡◌, ◌≢◌, ◌⊎◌, ℕ, ◌+◌, ◌*◌, ◌-◌, ◌<◌, ◌≤◌, true, false, cond, nat_lt, List, [], ◌∷◌, length, Option, Some}
use Rattle.std.specs.Prelude.{None}
use Rattle.portmap_scheduler.specs.{Links.{Links, times}, Runs.before}
use Rattle.portmap_worker.specs.{IdleLinks.{Ahead, Holds}, Link.IsOf}
use Rattle.portmap_worker.specs.{declared.open_link.OpenLink.OpenLink, declared.schedule.Schedule.Schedule}
use Rattle.portmap_worker.specs.declared.limits.TheConstants.{TURNS_MOST}
use Rattle.portmap_worker.specs.declared.source.Turn.{Turn, TheVariants.{Late}}

-- The number of connections that may be accepted before the queue is served, unless a poll comes first.
abbrev pub accepts : Schedule → ℕ
accepts s = cond s.has_accepted 0 1

-- The number of turns that may pass before the queue is served. If a poll comes first, a connection may be accepted after it.
abbrev pub patience : Schedule → ℕ
patience s = cond (nat_lt (accepts s) (TURNS_MOST - s.turns)) (accepts s) (TURNS_MOST - s.turns + 2)

-- A queued link waits for at most this many turns, and for as many more for each link before it.
abbrev pub share : ℕ
share = 4

-- The turn serves the link with this key: it is ready, or late.
abbrev pub Serves : ℕ → Turn → Type 0
Serves k turn = IsOf (Some k) turn

-- The turn costs queued links no time: it evicts a connection, or serves again the link that was served last.
abbrev pub IsFree : Option ℕ → Turn → Type 0
IsFree last turn = ((k : ℕ) × (turn ≡ Late k)) ⊎ IsOf last turn

-- An act of a source: a turn that counts, a free turn, a link that is lent, or a link that ends.
pub data Act : Type 0 where
  Counts : Turn → Act
  Free : Turn → Act
  Lends : Act
  Leaves : ℕ → Act

abbrev pub turns : List Act → ℕ
turns [] = 0
turns (Counts turn ∷ acts) = 1 + turns acts
turns (act ∷ acts) = turns acts

-- The act neither serves nor ends the link with this key.
abbrev pub Spares : ℕ → Act → Type 0
Spares k (Counts turn) = Serves k turn → ⊥
Spares k (Free turn) = Serves k turn → ⊥
Spares k Lends = Unit {0}
Spares k (Leaves j) = k ≢ j

abbrev pub AllSpare : ℕ → List Act → Type 0
AllSpare k [] = Unit {0}
AllSpare k (act ∷ acts) = Spares k act × AllSpare k acts

-- A connection was accepted, after a turn in which none was.
abbrev pub HasAccepted : Schedule → Schedule → Type 0
HasAccepted old new = (old.has_accepted ≡ false) × (new ≡ record old { has_accepted = true })

-- The links of a worker, and its schedule.
pub record Scene (S : Type 0) : Type 0 where
  pub links : Links (OpenLink S)
  pub schedule : Schedule

module _ {S : Type 0} where
  -- The link with this key is queued, and fewer than `most` turns pass before it is served.
  pub record Within (k most : ℕ) (scene : Scene S) : Type 0 where
    pub queued : 0 < times k scene.links.queue
    pub near : share * length (before k scene.links.queue) + patience scene.schedule < most

  abbrev pub scene : Links (OpenLink S) → Schedule → Scene S
  scene links schedule = record { links = links; schedule = schedule }

  -- A link left the head of the queue: every other queued link has one link less before it.
  abbrev pub Passes : Turn → Links (OpenLink S) → Links (OpenLink S) → Type 0
  Passes turn old new = (k most : ℕ) → Holds (Ahead k (1 + most)) old → Serves k turn ⊎ Holds (Ahead k most) new

  -- Every queued link stays queued and as near as before, except the link that is served.
  abbrev pub Waits : Turn → Scene S → Scene S → Type 0
  Waits turn old new = (k most : ℕ) → Within k most old → Serves k turn ⊎ Within k most new

  -- Every queued link is one turn nearer, except the link that is served.
  abbrev pub Nears : Turn → Scene S → Scene S → Type 0
  Nears turn old new = (k most : ℕ) → Within k (1 + most) old → Serves k turn ⊎ Within k most new

  -- The turn brings every queued link nearer, unless it is free.
  abbrev pub IsTurn : Turn → Scene S → Scene S → Type 0
  IsTurn turn old new = Nears turn old new ⊎ (IsFree old.links.current turn × Waits turn old new)

  -- A poll was made without a turn: every queued link is one turn nearer.
  abbrev pub IsPast : Scene S → Scene S → Type 0
  IsPast old new = (k most : ℕ) → Within k (1 + most) old → Within k most new

  abbrev pub IsStep : Scene S → Scene S → Option Turn → Type 0
  IsStep old new None = IsPast old new
  IsStep old new (Some turn) = IsTurn turn old new

  -- If any link is queued, all turns before the next poll are taken.
  abbrev pub IsSpent : Scene S → Scene S → Type 0
  IsSpent old new = (k most : ℕ) → Within k most old → Within k most new × (TURNS_MOST ≤ new.schedule.turns)

  abbrev pub Does : Act → Scene S → Scene S → Type 0
  Does (Counts turn) old new = Nears turn old new
  Does (Free turn) old new = IsFree old.links.current turn × Waits turn old new
  Does Lends old new = (k most : ℕ) → Within k most old → Within k most new
  Does (Leaves j) old new = (k most : ℕ) → k ≢ j → Within k most old → Within k most new

  abbrev pub Acts : List Act → Scene S → Scene S → Type 0
  Acts [] old new = new ≡ old
  Acts (act ∷ acts) old new = (between : Scene S) × Does act old between × Acts acts between new

-- A link that is queued behind n others is served or ended before `share` times n + 1 turns have counted.
abbrev pub QueuedAreServed : Type 0 → Type 0
QueuedAreServed S =
    (k : ℕ) (acts : List Act) (old new : Scene S) → Acts acts old new → 0 < times k old.links.queue
    → share * (1 + length (before k old.links.queue)) ≤ turns acts → AllSpare k acts → ⊥
