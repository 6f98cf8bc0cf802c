-- Lemmas: a link that changes its state, arrives or is removed, and the lists of keys.
use Rattle.std.specs.{Cmp.nat_cmp_total, FinMap.nat_cmp-IsAntisymmetric, Ordering.nat_cmp}
use Rattle.std.specs.Prelude.{count_by, drop, map as list_map, option_map, slice_get}
use Rattle.std.proofs.Common.{◌≡◌, ℕ, suc, zero, ◌+◌, ◌<◌, ◌≤◌, Bool, false, not, cond, eqb, List, [], ◌∷◌}
use Rattle.std.proofs.Common.{length, get_or, Option, Some, None, is_some, IsSome, refl, sym, ap, ◌∙◌, arith, rules, inl, inr}
use Rattle.std.proofs.lemmas.{Bool.{cases_eq, Decides.nat_tests}, List.Sums.sum_by-cons}
use Rattle.std.specs.FinMap as map
use Rattle.slab.specs.Slab.{Slab, get, Updates, entries_from}
use Rattle.portmap_scheduler.specs.Tracked.{link_of}
use Rattle.portmap_scheduler.specs.Links.{Links, one_at, pushed, times, with_state, without}
use Rattle.portmap_scheduler.specs.{Whole.{Lists, links_of}, declared.Tracked.Tracked, declared.LinkState.LinkState}
use Rattle.portmap_scheduler.proofs.Times.{times-filter, times-pushed, times-pushed_other, times_fit, without_absent, without_first}

module _ {T : Type 0} where
  pub seen_is : (v w : Links T) → v.links ≡ w.links → v.queue ≡ w.queue → v.pending ≡ w.pending → v.current ≡ w.current
      → v.has_room ≡ w.has_room → v ≡ w
  seen_is v w a b c d e = λ i. record { links = a i; queue = b i; pending = c i; current = d i; has_room = e i }

  -- ---- the links in the view

  before : (j q : ℕ) (slots : List (Option (T × LinkState))) → q < j → map.find nat_cmp q (entries_from j slots) ≡ None
  before j q [] lt = refl
  before j q (None ∷ slots) lt = before (j + 1) q slots (omega arith)
  before j q (Some link ∷ slots) lt = grind (arith, nat_tests, before (j + 1) q slots (omega arith))

  at_slot : (j k q : ℕ) (slots : List (Option (Tracked T))) → q ≡ j + k
      → map.find nat_cmp q (entries_from j (list_map link_of slots)) ≡ link_of (get_or slots k None)
  at_slot j k q [] e = refl
  at_slot j zero q (None ∷ slots) e = before (j + 1) q (list_map link_of slots) (omega arith)
  at_slot j zero q (Some h ∷ slots) e = grind (arith, nat_tests)
  at_slot j (suc k) q (None ∷ slots) e = at_slot (j + 1) k q slots (omega arith)
  at_slot j (suc k) q (Some h ∷ slots) e = grind (arith, nat_tests, at_slot (j + 1) k q slots (omega arith))

  pub get-links_of : (s : Slab (Tracked T)) (k : ℕ) → map.get (links_of s.slots) k ≡ link_of (get s k)
  get-links_of s k =
      map.get-from_entries nat_cmp_total (entries_from 0 (list_map link_of s.slots)) k ∙ at_slot 0 k k s.slots (omega arith)

  pub same : (m n : map.FinMap nat_cmp (T × LinkState)) → ((q : ℕ) → map.get m q ≡ map.get n q) → m ≡ n
  same m n h = map.same_map nat_cmp_total nat_cmp-IsAntisymmetric m n h

  pub len_from : (j : ℕ) (slots : List (Option (Tracked T)))
      → map.len (map.from_entries {R = nat_cmp} (entries_from j (list_map link_of slots))) ≡ count_by is_some slots
  len_from j [] = map.len-empty nat_cmp (T × LinkState)
  len_from j (None ∷ slots) = omega (arith, len_from (j + 1) slots, sum_by-cons (λ o. cond (is_some o) 1 0) None slots)
  len_from j (Some h ∷ slots) =
      let links = list_map link_of slots in
      let m = map.from_entries {R = nat_cmp} (entries_from (j + 1) links) in
      let vacant = map.get-from_entries nat_cmp_total (entries_from (j + 1) links) j ∙ before (j + 1) j links (omega arith) in
      let none : map.contains_key m j ≡ false = ap is_some vacant in
      map.len-insert nat_cmp_total m j (h.value, h.state)
      ∙ rw none (omega (arith, len_from (j + 1) slots, sum_by-cons (λ o. cond (is_some o) 1 0) (Some h) slots))

  -- ---- one entry changes

  module _ {s s' : Slab (Tracked T)} {k : ℕ} {o : Option (Tracked T)} (u : Updates s s' k o) where
    pub links_put : (link : T × LinkState) → link_of o ≡ Some link → links_of s'.slots ≡ map.insert (links_of s.slots) k link
    links_put link h = same _ _ (λ q. grind (arith, nat_tests, map.gets, get-links_of s q, get-links_of s' q, u.changed, u.others q, h))

    pub links_cut : link_of o ≡ None → links_of s'.slots ≡ map.remove (links_of s.slots) k
    links_cut h = same _ _ (λ q. grind (arith, nat_tests, map.gets, get-links_of s q, get-links_of s' q, u.changed, u.others q, h))

    pub links_same : link_of o ≡ link_of (get s k) → links_of s'.slots ≡ links_of s.slots
    links_same h = search (rules, get-links_of, same)

    -- The link, if present, goes to `state`.
    pub links_to : (state : LinkState) → link_of o ≡ option_map (λ l. (l.0, state)) (link_of (get s k))
        → links_of s'.slots ≡ with_state state k (links_of s.slots)
    links_to state e = search (rules, get-links_of, links_put, links_same)

  -- ---- a list of keys

  module _ (test : LinkState → Bool) (k : ℕ) (xs : List ℕ) (m : map.FinMap nat_cmp (T × LinkState)) (h : Lists test xs m) where
    pub lists_cut : Lists test (without k xs) (map.remove m k)
    lists_cut q = grind (arith, nat_tests, map.gets, times-filter (λ j. not (eqb j k)) q xs, h q)

    -- The link under `k` arrives or gets another state.
    pub lists_put : (link : T × LinkState) → Lists test (pushed (test link.1) k (without k xs)) (map.insert m k link)
    lists_put link q = elim (cases_eq q k) [
      | inl same ↦ rw same (grind (arith, nat_tests, map.gets, times-pushed (test link.1) k (without k xs), lists_cut k))
      | inr differs ↦ times-pushed_other (test link.1) q k (without k xs) differs ∙ lists_cut q
          ∙ ap (one_at test) (grind (arith, nat_tests, map.gets, differs))
    ]

    -- The list has no key of a link whose state fails the test.
    pub not_listed : one_at test (map.get m k) ≡ 0 → xs ≡ without k xs
    not_listed e = sym (without_absent k xs (h k ∙ e))

    once : (q : ℕ) → times q xs ≤ 1
    once q = omega (arith, h q, most (map.get m q))
      where
        most : (o : Option (T × LinkState)) → one_at test o ≤ 1
        most o = search rules

    -- A listed key is that of a link.
    pub listed : (q : ℕ) → 0 < times q xs → (link : T × LinkState) × (map.get m q ≡ Some link)
    listed q some = here (map.get m q) (omega (arith, h q, some))
      where
        here : (o : Option (T × LinkState)) → 0 < one_at test o → (link : T × LinkState) × (o ≡ Some link)
        here None l = absurd (omega arith)
        here (Some link) l = (link, refl)

    pub rest_listed : slice_get xs 0 ≡ Some k → drop 1 xs ≡ without k xs
    rest_listed first = sym (without_first k xs first (once k))

    -- If all keys of links are below `n`, the list has room for one more key below `n`.
    pub room_for : (n : ℕ) → ((q : ℕ) → IsSome (map.get m q) → q < n) → one_at test (map.get m k) ≡ 0 → k < n → length xs < n
    room_for n below none within = times_fit xs n k once (λ q some. below q (ap is_some (listed q some).1)) (h k ∙ none) within
