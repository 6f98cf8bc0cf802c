-- Sequences of calls, and what they do to the keys that wait in a list: profile.
use Rattle.std.specs.Prelude.{◌≡◌, ◌≢◌, ℕ, ◌+◌, ◌<◌, ◌≤◌, cond, ◌==◌, List, [], ◌∷◌, ◌++◌, length, slice_get, Option}
use Rattle.std.specs.Prelude.{Some, option_to_list}
use Rattle.portmap_scheduler.specs.declared.LinkState.TheVariants.{Idle, Queued, Pending}
use Rattle.portmap_scheduler.specs.Links.{Links, IsButForRoom, inserted, moved, removed, reported, after_next, after_next_pending}
use Rattle.portmap_scheduler.specs.Links.{times, written}

-- A call with its arguments and its key. `Refuse` is an `insert` that is refused.
pub data Call (T : Type 0) : Type 0 where
  Insert : ℕ → T → Call T
  Refuse : Call T
  Report : ℕ → Call T
  Next : Option ℕ → Call T
  NextPending : Option ℕ → Call T
  PutBack : ℕ → Call T
  Leave : ℕ → Call T
  Hold : ℕ → Call T
  Remove : ℕ → Call T
  Write : ℕ → T → Call T

-- The lists that are served in FIFO order: the run queue, and the pending links (`Tracked`).
pub data Line : Type 0 where
  Queue : Line
  PendingQueue : Line

-- The effect of a call on a list: none, a key is or is not appended, the first key is taken, or a key is removed.
pub data Change : Type 0 where
  Stays : Change
  Joins : ℕ → Change
  Takes : Option ℕ → Change
  Leaves : ℕ → Change

-- The keys ahead of the first `k`. If `k` is not in the list, the whole list.
abbrev pub before : ℕ → List ℕ → List ℕ
before k [] = []
before k (x ∷ xs) = cond (x == k) [] (x ∷ before k xs)

abbrev pub turn : Change → ℕ
turn (Takes first) = 1
turn _ = 0

abbrev pub first_taken : Change → List ℕ
first_taken (Takes first) = option_to_list first
first_taken _ = []

-- The change neither takes nor removes `k`.
abbrev pub Spares : ℕ → Change → Type 0
Spares k (Takes first) = first ≢ Some k
Spares k (Leaves j) = j ≢ k
Spares k _ = Unit {0}

module _ {T : Type 0} where
  -- The effect of each call, as its contract states.
  abbrev pub Does : Call T → Links T → Links T → Type 0
  Does (Insert k value) old new = IsButForRoom new (inserted k value old)
  Does Refuse old new = IsButForRoom new old
  Does (Report k) old new = new ≡ reported k old
  Does (Next current) old new = (current ≡ slice_get old.queue 0) × (new ≡ after_next old)
  Does (NextPending current) old new = (current ≡ slice_get old.pending 0) × (new ≡ after_next_pending old)
  Does (PutBack k) old new = new ≡ moved Queued k old
  Does (Leave k) old new = new ≡ moved Idle k old
  Does (Hold k) old new = new ≡ moved Pending k old
  Does (Remove k) old new = IsButForRoom new (removed k old)
  Does (Write k value) old new = new ≡ written k old value

  abbrev pub Run : List (Call T) → Links T → Links T → Type 0
  Run [] old new = new ≡ old
  Run (call ∷ calls) old new = (between : Links T) × Does call old between × Run calls between new

  abbrev pub keys_of : Line → Links T → List ℕ
  keys_of Queue r = r.queue
  keys_of PendingQueue r = r.pending

  abbrev pub change : Line → Call T → Change
  change Queue (Insert k value) = Joins k
  change Queue (Report k) = Joins k
  change Queue (Next current) = Takes current
  change Queue (PutBack k) = Joins k
  change PendingQueue (NextPending current) = Takes current
  change PendingQueue (Hold k) = Joins k
  change line (Remove k) = Leaves k
  change line call = Stays

  -- No call takes `k` from the list or removes its link.
  abbrev pub AllSpare : Line → ℕ → List (Call T) → Type 0
  AllSpare line k [] = Unit {0}
  AllSpare line k (call ∷ calls) = Spares k (change line call) × AllSpare line k calls

  -- `turns` counts the calls that ask for the first key of the list. `all_taken` lists the keys that they took.
  abbrev pub turns : Line → List (Call T) → ℕ
  turns line [] = 0
  turns line (call ∷ calls) = turn (change line call) + turns line calls

  abbrev pub all_taken : Line → List (Call T) → List ℕ
  all_taken line [] = []
  all_taken line (call ∷ calls) = first_taken (change line call) ++ all_taken line calls

-- While `k` is spared, it stays in the list, and each turn reduces the number of keys ahead of it by at least 1.
abbrev pub WaitIsBounded : (T : Type 0) → Line → Type 0
WaitIsBounded T line =
    (k : ℕ) (calls : List (Call T)) (old new : Links T) → Run calls old new → 0 < times k (keys_of line old) → AllSpare line k calls
    → (0 < times k (keys_of line new)) × (turns line calls + length (before k (keys_of line new)) ≤ length (before k (keys_of line old)))

-- While `k` is spared, only keys that were ahead of it are taken, each at most as often as it occurs there.
abbrev pub QueueIsFifo : (T : Type 0) → Line → Type 0
QueueIsFifo T line =
    (k : ℕ) (calls : List (Call T)) (old new : Links T) → Run calls old new → 0 < times k (keys_of line old) → AllSpare line k calls
    → (j : ℕ) → times j (all_taken line calls) ≤ times j (before k (keys_of line old))
