-- The links of a scheduler, and the effect of each call: profile.
use Rattle.std.specs.{Coded.{Coded, code_by, coded×, coded_list, coded_ℕ, coded_option, coded_bool}, Ordering.nat_cmp}
use Rattle.std.specs.Prelude.{◌≡◌, ◌↔◌, ℕ, Bool, true, false, not, cond, ◌==◌, List, [], ◌∷◌, ◌++◌, filter, count_by}
use Rattle.std.specs.Prelude.{drop, slice_get, Option, Some, None, option_map, refl}
use Rattle.std.specs.FinMap as map
use Rattle.portmap_scheduler.specs.declared.LinkState.{LinkState, TheVariants.{Idle, Pending, Queued, Current}}

-- The view of a scheduler. `links` has each link with its state. The lists have keys in the order in which they are taken. `current` is the
-- key of the current link. `has_room` is true if the next insert does not allocate.
pub record Links (T : Type 0) : Type 0 where
  pub links : map.FinMap nat_cmp (T × LinkState)
  pub queue : List ℕ
  pub pending : List ℕ
  pub current : Option ℕ
  pub has_room : Bool

abbrev pub links_code : {T : Type 0} → Coded T → Coded LinkState → Coded (Links T)
links_code {T} item state =
    let keys = coded_list coded_ℕ in
    code_by (map.FinMap nat_cmp (T × LinkState) × (List ℕ × (List ℕ × (Option ℕ × Bool))))
    (coded× (map.code coded_ℕ (coded× item state)) (coded× keys (coded× keys (coded× (coded_option coded_ℕ) coded_bool))))
    (λ r. (r.links, (r.queue, (r.pending, (r.current, r.has_room)))))
    (λ p. record { links = p.0; queue = p.1.0; pending = p.1.1.0; current = p.1.1.1.0; has_room = p.1.1.1.1 })
    (λ _. refl)

-- `times k xs` counts the occurrences of `k` in `xs`.
abbrev pub times : ℕ → List ℕ → ℕ
times k xs = count_by (λ j. j == k) xs

abbrev pub without : ℕ → List ℕ → List ℕ
without k xs = filter (λ j. not (j == k)) xs

-- Appends `k` if the flag is true.
abbrev pub pushed : Bool → ℕ → List ℕ → List ℕ
pushed true k xs = xs ++ k ∷ []
pushed false k xs = xs

-- `None` if the option holds `k`; otherwise the option.
abbrev pub not_key : ℕ → Option ℕ → Option ℕ
not_key k None = None
not_key k (Some j) = cond (j == k) None (Some j)

-- ---- link states

abbrev pub is_queued : LinkState → Bool
is_queued Queued = true
is_queued _ = false

abbrev pub is_pending : LinkState → Bool
is_pending Pending = true
is_pending _ = false

abbrev pub is_current : LinkState → Bool
is_current Current = true
is_current _ = false

-- There is a link, and it is idle.
abbrev pub is_idle : Option LinkState → Bool
is_idle (Some Idle) = true
is_idle _ = false

module _ {T : Type 0} where
  abbrev pub link_at : Links T → ℕ → Option (T × LinkState)
  link_at r k = map.get r.links k

  abbrev pub state_at : Links T → ℕ → Option LinkState
  state_at r k = option_map (λ link. link.1) (link_at r k)

  -- 1 if there is a link and its state passes the test; otherwise 0.
  abbrev pub one_at : (LinkState → Bool) → Option (T × LinkState) → ℕ
  one_at test None = 0
  one_at test (Some link) = cond (test link.1) 1 0

  -- Each list has a key once if the link is in the list's state, and otherwise not at all. `current` names the link in state `Current`.
  pub record IsConsistent (r : Links T) : Type 0 where
    pub queue : (k : ℕ) → times k r.queue ≡ one_at is_queued (link_at r k)
    pub pending : (k : ℕ) → times k r.pending ≡ one_at is_pending (link_at r k)
    pub current : (k : ℕ) → (state_at r k ≡ Some Current) ↔ (r.current ≡ Some k)

  -- ---- changes

  -- Sets the state of the link under `k`, if there is a link.
  abbrev pub put_at : LinkState → ℕ → Option (T × LinkState) → map.FinMap nat_cmp (T × LinkState) → map.FinMap nat_cmp (T × LinkState)
  put_at state k None links = links
  put_at state k (Some link) links = map.insert links k (link.0, state)

  abbrev pub with_state : LinkState → ℕ → map.FinMap nat_cmp (T × LinkState) → map.FinMap nat_cmp (T × LinkState)
  with_state state k links = put_at state k (map.get links k) links

  abbrev pub first_at : LinkState → Option ℕ → map.FinMap nat_cmp (T × LinkState) → map.FinMap nat_cmp (T × LinkState)
  first_at state None links = links
  first_at state (Some k) links = with_state state k links

  -- Sets the value of the link under `k`, if there is a link.
  abbrev pub write_at : ℕ → T → Option (T × LinkState) → map.FinMap nat_cmp (T × LinkState) → map.FinMap nat_cmp (T × LinkState)
  write_at k value None links = links
  write_at k value (Some link) links = map.insert links k (value, link.1)

  abbrev pub written : ℕ → Links T → T → Links T
  written k r value = record r { links = write_at k value (link_at r k) r.links }

  -- Appends a new link to the run queue.
  abbrev pub inserted : ℕ → T → Links T → Links T
  inserted k value r = record r { links = map.insert r.links k (value, Queued); queue = r.queue ++ k ∷ [] }

  -- Moves an idle or current link to `state`: to the end of the list of that state, or to no list.
  abbrev pub moved : LinkState → ℕ → Links T → Links T
  moved state k r =
      record r {
        links = with_state state k r.links;
        queue = pushed (is_queued state) k r.queue;
        pending = pushed (is_pending state) k r.pending;
        current = not_key k r.current;
      }

  abbrev pub reported : ℕ → Links T → Links T
  reported k r = cond (is_idle (state_at r k)) (moved Queued k r) r

  -- The first link of the queue, or of the pending links, becomes current.
  abbrev pub after_next : Links T → Links T
  after_next r = record r { links = first_at Current (slice_get r.queue 0) r.links; queue = drop 1 r.queue; current = slice_get r.queue 0 }

  abbrev pub after_next_pending : Links T → Links T
  after_next_pending r =
      record r { links = first_at Current (slice_get r.pending 0) r.links; pending = drop 1 r.pending; current = slice_get r.pending 0 }

  abbrev pub removed : ℕ → Links T → Links T
  removed k r =
      record r {
        links = map.remove r.links k;
        queue = without k r.queue;
        pending = without k r.pending;
        current = not_key k r.current;
      }

  -- `new` equals `r`, except perhaps in `has_room`.
  abbrev pub IsButForRoom : Links T → Links T → Type 0
  IsButForRoom new r = new ≡ record r { has_room = new.has_room }
