-- The invariant of the fields, and the view that callers see. No public clause cites this module.
use Rattle.std.specs.{Ordering.nat_cmp, Prelude.{◌≡◌, ℕ, ◌<◌, Bool, ◌&&◌, nat_lt, nat_le, min, List}}
use Rattle.std.specs.{Prelude.{map as list_map, Option, IsSome}, VecDeque.deque_capacity}
use Rattle.std.specs.FinMap as map
use Rattle.slab.specs.Slab.{get, slab_len, entries_from}
use Rattle.portmap_scheduler.specs.Links.{Links, is_pending, is_queued, one_at, times}
use Rattle.portmap_scheduler.specs.Tracked.{is_current_in, is_key, link_of}
use Rattle.portmap_scheduler.specs.{declared.Tracked.Tracked, declared.LinkState.LinkState, declared.Scheduler.TheInside.Inside}

module _ {T : Type 0} where
  abbrev pub links_of : List (Option (Tracked T)) → map.FinMap nat_cmp (T × LinkState)
  links_of slots = map.from_entries (entries_from 0 (list_map link_of slots))

  -- The lower capacity of the two lists: each can hold all keys below this number.
  abbrev pub room : Inside T → ℕ
  room r = min (deque_capacity r.queue) (deque_capacity r.pending)

  abbrev pub has_room : Inside T → Bool
  has_room r = nat_lt (slab_len r.held) r.held.capacity && nat_le r.held.capacity (room r)

  abbrev pub seen : Inside T → Links T
  seen r =
      record {
        links = links_of r.held.slots;
        queue = r.queue.items;
        pending = r.pending.items;
        current = r.current;
        has_room = has_room r;
      }

  -- The list has the keys of the links whose state passes the test, each once.
  abbrev pub Lists : (LinkState → Bool) → List ℕ → map.FinMap nat_cmp (T × LinkState) → Type 0
  Lists test xs m = (q : ℕ) → times q xs ≡ one_at test (map.get m q)

  -- Lists and `current` are those of the links.
  pub record Agrees (v : Links T) : Type 0 where
    pub queue : Lists is_queued v.queue v.links
    pub pending : Lists is_pending v.pending v.links
    pub current : (q : ℕ) → is_key v.current q ≡ is_current_in (map.get v.links q)

  -- Each list can hold all keys in use.
  pub record IsWhole (r : Inside T) : Type 0 where
    pub agrees : Agrees (seen r)
    pub fits : (k : ℕ) → IsSome (get r.held k) → k < room r
