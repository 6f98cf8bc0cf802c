-- Lemmas: the effect of each call on the fields and on the view.
use Rattle.std.specs.{Prelude.{drop, option_map, nat_lt, nat_le, slice_get}}
use Rattle.std.proofs.Common.{◌≡◌, ◌≢◌, ◌↔◌, ℕ, ◌+◌, ◌<◌, ◌≤◌, Bool, true, false, ◌&&◌, cond, List, [], ◌∷◌, ◌++◌, length, get_or}
use Rattle.std.proofs.Common.{Option, Some, None, is_some, IsSome, refl, sym, ap, subst, ◌∙◌, arith}
use Rattle.std.proofs.{Common.rules, lemmas.Bool.Decides.nat_tests, lemmas.List.Sums.sum_by-set}
use Rattle.std.specs.FinMap as map
use Rattle.slab.specs.Slab.{Slab, get, slab_len, Updates, with_value}
use Rattle.slab.proofs.SlabLemmas.{ContainsKey-within, Updates-with_value}
use Rattle.portmap_scheduler.specs.Tracked.{is_current_in, is_free, is_key, link_of, with_link_state}
use Rattle.portmap_scheduler.specs.Links.{Links, IsButForRoom, IsConsistent, inserted, is_queued, is_pending, is_current}
use Rattle.portmap_scheduler.specs.Links.{after_next, after_next_pending, first_at, link_at, moved, not_key, one_at}
use Rattle.portmap_scheduler.specs.Links.{pushed, put_at, removed, state_at, times, with_state, without, write_at, written}
use Rattle.portmap_scheduler.specs.Whole.{Agrees, IsWhole, Lists, has_room, links_of, room, seen}
use Rattle.portmap_scheduler.specs.{declared.Tracked.Tracked}
use Rattle.portmap_scheduler.specs.{declared.LinkState.{LinkState, TheVariants.{Idle, Queued, Pending, Current}}}
use Rattle.portmap_scheduler.specs.declared.Scheduler.TheInside.{Inside}
use Rattle.portmap_scheduler.proofs.Steps.{get-links_of, len_from, links_cut, links_put, links_to, listed, lists_cut, lists_put}
use Rattle.portmap_scheduler.proofs.{Steps.{not_listed, rest_listed, room_for, same, seen_is}, Times.first_listed}

not_key_here : (k : ℕ) (t : Option ℕ) → is_key (not_key k t) k ≡ false
not_key_here k t = search rules

not_key_other : (k q : ℕ) (t : Option ℕ) → q ≢ k → is_key (not_key k t) q ≡ is_key t q
not_key_other k q t d = search rules

module _ {T : Type 0} where
  -- ---- the view

  -- A link that is neither queued nor pending.
  pub record IsFree (o : Option (T × LinkState)) : Type 0 where
    pub link : T × LinkState
    pub here : o ≡ Some link
    pub queue : one_at is_queued o ≡ 0
    pub pending : one_at is_pending o ≡ 0

  free_link : (o : Option (T × LinkState)) → is_free (option_map (λ l. l.1) o) ≡ true → IsFree o
  free_link None f = absurd cc
  free_link (Some (v, Idle)) f = record { link = (v, Idle); here = refl; queue = refl; pending = refl }
  free_link (Some (v, Current)) f = record { link = (v, Current); here = refl; queue = refl; pending = refl }
  free_link (Some (v, Queued)) f = absurd cc
  free_link (Some (v, Pending)) f = absurd cc

  -- No link is both queued and pending.
  apart : (o : Option (T × LinkState)) → one_at is_queued o + one_at is_pending o ≤ 1
  apart o = search rules

  module _ (k : ℕ) (v : Links T) (a : Agrees v) where
    not_queued : one_at is_queued (link_at v k) ≡ 0 → v.queue ≡ without k v.queue
    not_queued e = not_listed is_queued k v.queue v.links a.queue e

    not_pending : one_at is_pending (link_at v k) ≡ 0 → v.pending ≡ without k v.pending
    not_pending e = not_listed is_pending k v.pending v.links a.pending e

    -- The link under `k` arrives or changes, and its key is in the list of its state alone.
    put_agrees : (link : T × LinkState) (w : Links T) → w.links ≡ map.insert v.links k link
        → w.queue ≡ pushed (is_queued link.1) k (without k v.queue) → w.pending ≡ pushed (is_pending link.1) k (without k v.pending)
        → is_key w.current k ≡ is_current link.1 → ((q : ℕ) → q ≢ k → is_key w.current q ≡ is_key v.current q) → Agrees w
    put_agrees link w links queue pending here others = record {
      queue = λ q. rw (queue, links) (lists_put is_queued k v.queue v.links a.queue link q);
      pending = λ q. rw (pending, links) (lists_put is_pending k v.pending v.links a.pending link q);
      current = λ q. rw links (grind (arith, nat_tests, map.gets, here, others q, a.current q));
    }

    pub moved_agrees : (p : LinkState) → IsFree (link_at v k) → is_current p ≡ false → Agrees (moved p k v)
    moved_agrees p free to =
        put_agrees (free.link.0, p) (moved p k v) (ap (λ o. put_at p k o v.links) free.here)
        (ap (pushed (is_queued p) k) (not_queued free.queue)) (ap (pushed (is_pending p) k) (not_pending free.pending))
        (not_key_here k v.current ∙ sym to) (λ q differs. not_key_other k q v.current differs)

    -- The link under `k` becomes current, and its key is in no list.
    current_agrees : (value : T) (w : Links T) → w.links ≡ map.insert v.links k (value, Current) → w.queue ≡ without k v.queue
        → w.pending ≡ without k v.pending → w.current ≡ Some k → v.current ≡ None → Agrees w
    current_agrees value w links queue pending current none =
        put_agrees (value, Current) w links queue pending (rw current (grind (arith, nat_tests)))
        (λ q differs. rw (current, none) (grind (arith, nat_tests, differs)))

    pub next_agrees : slice_get v.queue 0 ≡ Some k → v.current ≡ None → Agrees (after_next v)
    next_agrees first none =
        let some = first_listed k v.queue first in
        let link = listed is_queued k v.queue v.links a.queue k some in
        current_agrees link.0.0 (after_next v)
        (ap (λ o. first_at Current o v.links) first ∙ ap (λ o. put_at Current k o v.links) link.1)
        (rest_listed is_queued k v.queue v.links a.queue first)
        (not_pending (omega (arith, apart (link_at v k), a.queue k, some))) first none

    pub next_pending_agrees : slice_get v.pending 0 ≡ Some k → v.current ≡ None → Agrees (after_next_pending v)
    next_pending_agrees first none =
        let some = first_listed k v.pending first in
        let link = listed is_pending k v.pending v.links a.pending k some in
        current_agrees link.0.0 (after_next_pending v)
        (ap (λ o. first_at Current o v.links) first ∙ ap (λ o. put_at Current k o v.links) link.1)
        (not_queued (omega (arith, apart (link_at v k), a.pending k, some)))
        (rest_listed is_pending k v.pending v.links a.pending first) first none

    pub insert_agrees : (value : T) → link_at v k ≡ None → Agrees (inserted k value v)
    insert_agrees value none =
        put_agrees (value, Queued) (inserted k value v) refl (ap (λ xs. xs ++ k ∷ []) (not_queued (ap (one_at is_queued) none)))
        (not_pending (ap (one_at is_pending) none)) (a.current k ∙ ap is_current_in none) (λ q differs. refl)

    pub remove_agrees : Agrees (removed k v)
    remove_agrees = record {
      queue = lists_cut is_queued k v.queue v.links a.queue;
      pending = lists_cut is_pending k v.pending v.links a.pending;
      current = λ q. grind (arith, nat_tests, map.gets, not_key_here k v.current, not_key_other k q v.current, a.current q);
    }

    -- Without a link under `k`, its removal changes nothing.
    pub removed_absent : link_at v k ≡ None → v ≡ removed k v
    removed_absent none =
        seen_is _ _ (same _ _ (λ q. grind (arith, nat_tests, map.gets, none))) (not_queued (ap (one_at is_queued) none))
        (not_pending (ap (one_at is_pending) none)) (unnamed v.current (a.current k ∙ ap is_current_in none)) refl
      where
        unnamed : (t : Option ℕ) → is_key t k ≡ false → t ≡ not_key k t
        unnamed t e = search rules

    -- A new value leaves the state.
    pub write_agrees : (value : T) → Agrees (written k v value)
    write_agrees value = record {
      queue = λ q. a.queue q ∙ sym (stays (one_at is_queued) (λ x y s. refl) (link_at v k) refl q);
      pending = λ q. a.pending q ∙ sym (stays (one_at is_pending) (λ x y s. refl) (link_at v k) refl q);
      current = λ q. a.current q ∙ sym (stays is_current_in (λ x y s. refl) (link_at v k) refl q);
    }
      where
        stays : {A : Type 0} (f : Option (T × LinkState) → A) → ((x y : T) (s : LinkState) → f (Some (x, s)) ≡ f (Some (y, s)))
            → (o : Option (T × LinkState)) → link_at v k ≡ o → (q : ℕ) → f (map.get (write_at k value o v.links) q) ≡ f (map.get v.links q)
        stays f g None e q = refl
        stays f g (Some (x, s)) e q = grind (arith, nat_tests, map.gets, g value x s, e)

  -- ---- what the fields say about the view

  pub link_vacant : (r : Inside T) (k : ℕ) → get r.held k ≡ None → link_at (seen r) k ≡ None
  link_vacant r k e = get-links_of r.held k ∙ ap link_of e

  pub seen_link : (r : Inside T) {v : Links T} (k : ℕ) → seen r ≡ v → link_at v k ≡ link_of (get r.held k)
  seen_link r k e = sym (ap (λ v. link_at v k) e) ∙ get-links_of r.held k

  pub some_seen : (r : Inside T) {v : Links T} (k : ℕ) → seen r ≡ v → is_some (get r.held k) ≡ is_some (link_at v k)
  some_seen r k e = some_link (get r.held k) ∙ ap is_some (sym (seen_link r k e))
    where
      some_link : (o : Option (Tracked T)) → is_some o ≡ is_some (link_of o)
      some_link o = search rules

  pub key_below : (r : Inside T) {v : Links T} (k : ℕ) → seen r ≡ v → IsSome (link_at v k) → k < length r.held.slots
  key_below r k e some = ContainsKey-within r.held k (some_seen r k e ∙ some)

  pub links_counted : (r : Inside T) {v : Links T} → seen r ≡ v → slab_len r.held ≡ map.len v.links
  links_counted r e = sym (len_from 0 r.held.slots) ∙ ap (λ v. map.len v.links) e

  pub room_enough : (r : Inside T) {v : Links T} → seen r ≡ v → v.has_room ≡ true → r.held.capacity ≤ room r
  room_enough r e has = search rules

  pub consistent : {r : Inside T} → IsWhole r → IsConsistent (seen r)
  consistent {r} i = record {
    queue = i.agrees.queue;
    pending = i.agrees.pending;
    current = λ k. named (link_at (seen r) k) r.current k (i.agrees.current k);
  }
    where
      named : (o : Option (T × LinkState)) (t : Option ℕ) (k : ℕ) → is_key t k ≡ is_current_in o
          → (option_map (λ l. l.1) o ≡ Some Current) ↔ (t ≡ Some k)
      named o t k e = search rules

  free_at : (r : Inside T) {v : Links T} (k : ℕ) → seen r ≡ v → is_free (state_at v k) ≡ true → IsFree (link_at (seen r) k)
  free_at r k e f = free_link (link_at (seen r) k) (subst (λ (v : Links T). is_free (state_at v k) ≡ true) (sym e) f)

  -- ---- room in the lists

  -- If one key changes, the keys in use stay below the room.
  fits_after : (old new : Inside T) {k : ℕ} {o : Option (Tracked T)} → IsWhole old → Updates old.held new.held k o → room new ≡ room old
      → (IsSome o → k < room old) → (q : ℕ) → IsSome (get new.held q) → q < room new
  fits_after old new i u rooms within q h = rw rooms (grind (arith, nat_tests, u.changed, u.others q, i.fits q, within, h))

  below : {r : Inside T} → IsWhole r → (q : ℕ) → IsSome (map.get (links_of r.held.slots) q) → q < room r
  below {r} i q h = i.fits q (some_seen r q refl ∙ h)

  pub record HasRooms (r : Inside T) : Type 0 where
    pub queue : length r.queue.items < room r
    pub pending : length r.pending.items < room r

  pub rooms_at : {r : Inside T} {v : Links T} (k : ℕ) → IsWhole r → seen r ≡ v → is_free (state_at v k) ≡ true → HasRooms r
  rooms_at {r} k i e f =
      let free = free_at r k e f in
      let within = below i k (ap is_some free.here) in
      let links = links_of r.held.slots in
      record {
        queue = room_for is_queued k r.queue.items links i.agrees.queue (room r) (below i) free.queue within;
        pending = room_for is_pending k r.pending.items links i.agrees.pending (room r) (below i) free.pending within;
      }

  pub insert_room : {r : Inside T} (k : ℕ) → IsWhole r → get r.held k ≡ None → k < room r → length r.queue.items < room r
  insert_room {r} k i e within =
      room_for is_queued k r.queue.items (links_of r.held.slots) i.agrees.queue (room r) (below i)
      (ap (one_at is_queued) (link_vacant r k e)) within

  -- ---- a link is put into another state

  state_to : (p : LinkState) (o : Option (Tracked T)) → link_of (with_link_state p o) ≡ option_map (λ l. (l.0, p)) (link_of o)
  state_to p o = search rules

  some_state : (p : LinkState) (o : Option (Tracked T)) → is_some (with_link_state p o) ≡ is_some o
  some_state p o = search rules

  -- Only the state of one link, the lists and `current` change.
  pub record Sets (p : LinkState) (k : ℕ) (old new : Inside T) : Type 0 where
    pub held : Updates old.held new.held k (with_link_state p (get old.held k))
    pub len : slab_len new.held ≡ slab_len old.held
    pub capacity : new.held.capacity ≡ old.held.capacity
    pub rooms : room new ≡ room old

  module _ (p : LinkState) {k : ℕ} {old new : Inside T} (s : Sets p k old new) where
    set_links : links_of new.held.slots ≡ with_state p k (links_of old.held.slots)
    set_links = links_to s.held p (state_to p (get old.held k))

    set_room : has_room new ≡ has_room old
    set_room = λ x. nat_lt (s.len x) (s.capacity x) && nat_le (s.capacity x) (s.rooms x)

    set_whole : IsWhole old → Agrees (seen new) → IsWhole new
    set_whole i a = record {
      agrees = a;
      fits = fits_after old new i s.held s.rooms (λ h. i.fits k (sym (some_state p (get old.held k)) ∙ h));
    }

  pub record Puts (p : LinkState) (k : ℕ) (old new : Inside T) : Type 0 where
    pub sets : Sets p k old new
    pub queue : new.queue.items ≡ pushed (is_queued p) k old.queue.items
    pub pending : new.pending.items ≡ pushed (is_pending p) k old.pending.items
    pub current : new.current ≡ not_key k old.current

  module _ (p : LinkState) {k : ℕ} {old new : Inside T} (puts : Puts p k old new) where
    pub put_seen : seen new ≡ moved p k (seen old)
    put_seen = seen_is _ _ (set_links p puts.sets) puts.queue puts.pending puts.current (set_room p puts.sets)

    pub put_whole : {v : Links T} → IsWhole old → seen old ≡ v → is_free (state_at v k) ≡ true → is_current p ≡ false → IsWhole new
    put_whole i e f to =
        set_whole p puts.sets i (subst Agrees (sym put_seen) (moved_agrees k (seen old) i.agrees p (free_at old k e f) to))

  -- ---- the first link of a list becomes current

  -- `k` is taken from the list `xs`, which is then `ys`.
  pub record Takes (k : ℕ) (old new : Inside T) (xs ys : List ℕ) : Type 0 where
    pub sets : Sets Current k old new
    pub first : xs ≡ k ∷ ys
    pub current : new.current ≡ Some k

  module _ {k : ℕ} {old new : Inside T} {xs ys : List ℕ} (takes : Takes k old new xs ys) where
    head : slice_get xs 0 ≡ Some k
    head = ap (λ xs. slice_get xs 0) takes.first

    taken_links : links_of new.held.slots ≡ first_at Current (slice_get xs 0) (links_of old.held.slots)
    taken_links = set_links Current takes.sets ∙ sym (ap (λ o. first_at Current o (links_of old.held.slots)) head)

  module _ {k : ℕ} {old new : Inside T} (takes : Takes k old new old.queue.items new.queue.items) where
    pub next_seen : new.pending.items ≡ old.pending.items → seen new ≡ after_next (seen old)
    next_seen other =
        seen_is _ _ (taken_links takes) (sym (ap (drop 1) takes.first)) other (takes.current ∙ sym (head takes))
        (set_room Current takes.sets)

    pub next_whole : new.pending.items ≡ old.pending.items → IsWhole old → old.current ≡ None → IsWhole new
    next_whole other i none =
        set_whole Current takes.sets i (subst Agrees (sym (next_seen other)) (next_agrees k (seen old) i.agrees (head takes) none))

  module _ {k : ℕ} {old new : Inside T} (takes : Takes k old new old.pending.items new.pending.items) where
    pub next_pending_seen : new.queue.items ≡ old.queue.items → seen new ≡ after_next_pending (seen old)
    next_pending_seen other =
        seen_is _ _ (taken_links takes) other (sym (ap (drop 1) takes.first)) (takes.current ∙ sym (head takes))
        (set_room Current takes.sets)

    pub next_pending_whole : new.queue.items ≡ old.queue.items → IsWhole old → old.current ≡ None → IsWhole new
    next_pending_whole other i none =
        set_whole Current takes.sets i
        (subst Agrees (sym (next_pending_seen other)) (next_pending_agrees k (seen old) i.agrees (head takes) none))

  -- ---- a link arrives, is removed, or is written

  agrees_room : (v : Links T) (b : Bool) → Agrees v → Agrees (record v { has_room = b })
  agrees_room v b a = record { queue = a.queue; pending = a.pending; current = a.current }

  abbrev pub queued : T → Tracked T
  queued value = record { value = value; state = Queued }

  pub record Inserts (k : ℕ) (value : T) (old new : Inside T) : Type 0 where
    pub held : Updates old.held new.held k (Some (queued value))
    pub vacant : get old.held k ≡ None
    pub queue : new.queue.items ≡ old.queue.items ++ k ∷ []
    pub rooms : room new ≡ room old
    pub within : k < room old
    pub same : new ≡ record old { held = new.held; queue = new.queue }

  module _ {k : ℕ} {value : T} {old new : Inside T} (inserts : Inserts k value old new) where
    pub insert_seen : IsButForRoom (seen new) (inserted k value (seen old))
    insert_seen =
        seen_is _ (record (inserted k value (seen old)) { has_room = has_room new }) (links_put inserts.held (value, Queued) refl)
        inserts.queue (ap (λ r. r.pending.items) inserts.same) (ap (λ r. r.current) inserts.same) refl

    pub insert_whole : IsWhole old → IsWhole new
    insert_whole i =
        let vacant = link_vacant old k inserts.vacant in
        record {
          agrees = subst Agrees (sym insert_seen) (agrees_room _ _ (insert_agrees k (seen old) i.agrees value vacant));
          fits = fits_after old new i inserts.held inserts.rooms (λ h. inserts.within);
        }

  pub record Removes (k : ℕ) (old new : Inside T) : Type 0 where
    pub held : Updates old.held new.held k None
    pub queue : new.queue.items ≡ without k old.queue.items
    pub pending : new.pending.items ≡ without k old.pending.items
    pub current : new.current ≡ not_key k old.current
    pub rooms : room new ≡ room old

  module _ {k : ℕ} {old new : Inside T} (removes : Removes k old new) where
    pub remove_seen : IsButForRoom (seen new) (removed k (seen old))
    remove_seen =
        seen_is _ (record (removed k (seen old)) { has_room = has_room new }) (links_cut removes.held refl) removes.queue
        removes.pending removes.current refl

    pub remove_whole : IsWhole old → IsWhole new
    remove_whole i = record {
      agrees = subst Agrees (sym remove_seen) (agrees_room _ _ (remove_agrees k (seen old) i.agrees));
      fits = fits_after old new i removes.held removes.rooms (λ h. absurd cc);
    }

  -- Without a link under `k`, nothing is removed.
  pub absent_seen : (r new : Inside T) (v : Links T) (k : ℕ) → IsWhole r → seen r ≡ v → new ≡ r → get r.held k ≡ None
      → IsButForRoom (seen new) (removed k v)
  absent_seen r new v k i e same none =
      subst (λ (n : Inside T). IsButForRoom (seen n) (removed k v)) (sym same)
      (subst (λ (w : Links T). IsButForRoom (seen r) (removed k w)) e (removed_absent k (seen r) i.agrees (link_vacant r k none)))

  -- The list has no key of a link in another state.
  pub absent_from : (test : LinkState → Bool) (xs : List ℕ) (s : Slab (Tracked T)) (k : ℕ) (h : Tracked T)
      → Lists test xs (links_of s.slots) → get s k ≡ Some h → test h.state ≡ false → times k xs ≡ 0
  absent_from test xs s k h are here e =
      are k ∙ ap (one_at test) (get-links_of s k ∙ ap link_of here) ∙ ap (λ b. cond b 1 0) e

  slab_len-with_value : (s : Slab (Tracked T)) (k : ℕ) (h : Tracked T) → is_some (get s k) ≡ true → slab_len (with_value s k h) ≡ slab_len s
  slab_len-with_value s k h e = search (rules, ContainsKey-within, sum_by-set)

  module _ (r : Inside T) (k : ℕ) {h : Tracked T} (here : get r.held k ≡ Some h) where
    abbrev with_item : T → Slab (Tracked T)
    with_item w = with_value r.held k (record { value = w; state = h.state })

    write_held : (w : T) → Updates r.held (with_item w) k (Some (record { value = w; state = h.state }))
    write_held w = Updates-with_value r.held k (record { value = w; state = h.state }) (ap is_some here)

    pub link_written : link_at (seen r) k ≡ Some (h.value, h.state)
    link_written = get-links_of r.held k ∙ ap link_of here

    pub write_seen : (w : T) → seen (record r { held = with_item w }) ≡ written k (seen r) w
    write_seen w =
        seen_is _ _ (links_put (write_held w) (w, h.state) refl ∙ sym (ap (λ o. write_at k w o (links_of r.held.slots)) link_written))
        refl refl refl
        (ap (λ n. nat_lt n r.held.capacity && nat_le r.held.capacity (room r))
        (slab_len-with_value r.held k (record { value = w; state = h.state }) (ap is_some here)))

    pub write_whole : IsWhole r → (w : T) → IsWhole (record r { held = with_item w })
    write_whole i w = record {
      agrees = subst Agrees (sym (write_seen w)) (write_agrees k (seen r) i.agrees w);
      fits = fits_after r (record r { held = with_item w }) i (write_held w) refl (λ some. i.fits k (ap is_some here));
    }

  -- ---- no links

  pub new_whole : (r : Inside T) → r.held.slots ≡ [] → r.queue.items ≡ [] → r.pending.items ≡ [] → r.current ≡ None → IsWhole r
  new_whole r slots queue pending current =
      let vacant : (q : ℕ) → get r.held q ≡ None = λ q. ap (λ xs. get_or xs q None) slots in
      let none = λ (q : ℕ). link_vacant r q (vacant q) in
      record {
        agrees = record {
          queue = λ q. ap (times q) queue ∙ sym (ap (one_at is_queued) (none q));
          pending = λ q. ap (times q) pending ∙ sym (ap (one_at is_pending) (none q));
          current = λ q. ap (λ t. is_key t q) current ∙ sym (ap is_current_in (none q));
        };
        fits = λ q some. let none = vacant q in absurd (search rules);
      }

pub ruleset looks = (get-links_of, consistent, links_counted, key_below, some_seen, link_vacant, map.len-empty)
