-- Lemmas: a queued link is served within a number of turns.
use Rattle.std.specs.Prelude.{drop, slice_get, unwrap_or, is_some, IfNone, IfSome}
use Rattle.std.proofs.Common.{◌≡◌, ◌≢◌, ◌⊎◌, inl, inr, ℕ, ◌+◌, ◌<◌, ◌≤◌, true, false, List, [], ◌∷◌, length}
use Rattle.std.proofs.Common.{refl, sym, ap, ◌∙◌, arith, Option, Some, None}
use Rattle.std.proofs.{lemmas.Bool.{cases_Bool, cases_eq}, lemmas.Bool.Decides.nat_tests}
use Rattle.portmap_scheduler.{specs.Links.{Links, reported, times, after_next, written}}
use Rattle.portmap_scheduler.{specs.Runs.{before, Next, Queue}, proofs.Turns.wait_is_bounded}
use Rattle.portmap_worker.specs.declared.limits.TheConstants.{TURNS_MOST}
use Rattle.portmap_worker.specs.declared.schedule.Schedule.{Schedule}
use Rattle.portmap_worker.specs.declared.{open_link.OpenLink.OpenLink, source.Turn.Turn}
use Rattle.portmap_worker.specs.Schedule.{Act, Acts, AllSpare, Does, HasAccepted, IsFree, IsPast, IsSpent, IsStep, IsTurn, Nears}
use Rattle.portmap_worker.specs.Schedule.{Passes, QueuedAreServed, Scene, Within, scene}
use Rattle.portmap_worker.specs.Schedule.{patience, share, turns, Counts, Free, Lends, Leaves}
use Rattle.portmap_worker.specs.{IdleLinks.{Ahead, Changes, Returns}, Link.IsOf}
use Rattle.portmap_worker.proofs.Idle.{Stays, lent, stays_of, returned_stays}

pub patience_most : (s : Schedule) → patience s < share
patience_most s = elim (cases_Bool s.has_accepted) [
  | inl served ↦ grind (arith, nat_tests, served)
  | inr accepts ↦ grind (arith, nat_tests, accepts)
]

-- After all turns, a poll lowers the patience by at least 1.
pub polled : (old new : Schedule) → new ≡ record old { turns = 0 } → TURNS_MOST ≤ old.turns → 1 + patience new ≤ patience old
polled old new e most = elim (cases_Bool old.has_accepted) [
  | inl served ↦ rw e (grind (arith, nat_tests, served, most))
  | inr accepts ↦ rw e (grind (arith, nat_tests, accepts, most))
]

-- The poll sets the count of turns to 0.
pub asked : (old first waited : Schedule) → first ≡ old → waited ≡ record first { turns = 0 } → waited ≡ record old { turns = 0 }
asked old first waited f w = rw f at w

-- A counted turn that accepts a connection lowers the patience by at least 1.
accepted : (old taken new : Schedule) → old.turns < TURNS_MOST → taken ≡ record old { turns = old.turns + 1 } → HasAccepted taken new
    → 1 + patience new ≤ patience old
accepted old taken new turns t h =
    let none : old.has_accepted ≡ false = rw t at h.0 in
    rw (h.1, t) (grind (arith, nat_tests, none, turns))

module _ {S : Type 0} where
  pub longer : (k : ℕ) (scene : Scene S) {least most : ℕ} → least ≤ most → Within k least scene → Within k most scene
  longer k scene l h = let near = h.near in record { queued = h.queued; near = omega (arith, near, l) }

  -- No turn has passed, or a turn that brings no queued link nearer.
  module _ (less : ℕ) (old new : Scene S) where
    moves : Stays old.links new.links → less + patience new.schedule ≤ patience old.schedule → (k most : ℕ) → Within k (less + most) old
        → Within k most new
    moves stay p k most h =
        let there = h.queued in
        let kept = stay k (1 + length (before k old.links.queue)) (there, omega arith) in
        let ahead = kept.1 in
        let near = h.near in
        record { queued = kept.0; near = omega (arith, near, ahead, p) }

  pub waits : (old new : Scene S) → Stays old.links new.links → new.schedule ≡ old.schedule → Does Lends old new
  waits old new stay e k most h = moves 0 old new stay (rw e (omega arith)) k most (longer k old (omega arith) h)

  pub lends : (key : ℕ) (v : OpenLink S) (old r : Links (OpenLink S)) (s : Schedule) → r ≡ reported key old
      → Does Lends (scene old s) (scene (written key r v) s)
  lends key v old r s e = waits (scene old s) (scene (written key r v) s) (stays_of _ _ (lent key v old r e)) refl

  pub leaves : (key : ℕ) (old new : Scene S) → Changes key false old.links new.links → new.schedule ≡ old.schedule
      → Does (Leaves key) old new
  leaves key old new change e k most d h =
      let there = h.queued in
      let kept = change.others (Ahead k (1 + length (before k old.links.queue))) d (there, omega arith) in
      let ahead = kept.1 in
      let near = h.near in
      record { queued = kept.0; near = rw e (omega (arith, near, ahead)) }

  -- The first queued link was served.
  pub passes : (turn : Turn) (old new : Scene S) → Passes turn old.links new.links → Nears turn old new
  passes turn old new pass k most h = elim (pass k (length (before k old.links.queue)) (h.queued, omega arith)) [
    | inl served ↦ inl served
    | inr ahead ↦
        let near = h.near in
        let fewer = ahead.1 in
        let patient = patience_most new.schedule in
        inr (record { queued = ahead.0; near = omega (arith, near, fewer, patient) })
  ]

  -- The first key has left the queue, so every other queued link has one link less before it.
  pub passes_first : (key : ℕ) (turn : Turn) (old new : Links (OpenLink S)) → slice_get old.queue 0 ≡ Some key
      → new.queue ≡ drop 1 old.queue → IsOf (Some key) turn → Passes turn old new
  passes_first key turn old new first e of k most h = elim (cases_eq k key) [
    | inl same ↦ inl (rw same of)
    | inr differs ↦
        let there = h.0 in
        let near = h.1 in
        let other : slice_get old.queue 0 ≢ Some k = λ s. differs (sym (ap (λ o. unwrap_or o key) (sym first ∙ s))) in
        let next = after_next old in
        let still = wait_is_bounded Queue k (Next (slice_get old.queue 0) ∷ []) old next (next, (refl, refl), refl) there (other, tt) in
        let less = still.1 in
        inr (rw e (still.0, omega (arith, near, less)))
  ]

  -- ---- a step

  module _ (old new : Links (OpenLink S)) (s s' : Schedule) where
    -- A connection was accepted, or a link was evicted for a new connection.
    pub accepts_so : (taken : Schedule) (turn : Option Turn) → s.turns < TURNS_MOST → taken ≡ record s { turns = s.turns + 1 }
        → Returns old new turn → IfSome turn (λ _. HasAccepted taken s') → IfSome turn (λ t. Nears t (scene old s) (scene new s'))
    accepts_so taken None turns t tells has = tt
    accepts_so taken (Some turn) turns t tells has = λ k most h.
        inr (moves 1 (scene old s) (scene new s') (returned_stays old new (Some turn) tells) (accepted s taken s' turns t has) k most h)

    -- The turn takes no time from queued links.
    pub free_so : (turn : Option Turn) → is_some turn ≡ true → Returns old new turn → IfSome turn (IsFree old.current) → s' ≡ s
        → IsStep (scene old s) (scene new s') turn
    free_so None e tells free same = absurd (cc)
    free_so (Some turn) e tells free same =
        inr (free, λ k most h. inr (waits (scene old s) (scene new s') (returned_stays old new (Some turn) tells) same k most h))

  module _ (old r new : Links (OpenLink S)) (s s' : Schedule) where
    -- The first queued link was served, if any was queued.
    pub passes_so : (turn : Option Turn) → Stays old r → IfSome turn (λ t. Passes t r new)
        → IfSome turn (λ t. Nears t (scene old s) (scene new s'))
    passes_so None stay pass = tt
    passes_so (Some turn) stay pass =
        passes turn (scene old s) (scene new s') (λ k most h. pass k most (stay k (1 + most) h))

    pub spent_so : (turn : Option Turn) (X : Type 0) → Stays old r → IfNone turn ((r.queue ≡ []) × X)
        → IfNone turn (IsSpent (scene old s) (scene new s'))
    spent_so None X stay none = λ k most h.
        let kept = stay k (1 + length (before k old.queue)) (h.queued, omega arith) in
        let there = kept.0 in
        absurd (empty k r.queue none.0 there)
      where
        empty : (k : ℕ) (xs : List ℕ) → xs ≡ [] → 0 < times k xs → ⊥
        empty k xs e there = let at : 0 < times k [] = rw e at there in omega (arith, at)
    spent_so (Some turn) X stay none = tt

    pub nears_so : (turn : Option Turn) → is_some turn ≡ true → Stays old r → (mid : Schedule) → mid ≡ s
        → IfSome turn (λ t. Nears t (scene r mid) (scene new s')) → IsStep (scene old s) (scene new s') turn
    nears_so None e stay mid same nears = absurd (cc)
    nears_so (Some turn) e stay mid same nears =
        inl (λ k most h. nears k most (waits (scene old s) (scene r mid) stay same k (1 + most) h))

  module _ (old r new : Links (OpenLink S)) (s mid s' : Schedule) where
    pub spends : (turn : Option Turn) → is_some turn ≡ false → Stays old r → mid ≡ s → IfNone turn (IsSpent (scene r mid) (scene new s'))
        → IsSpent (scene old s) (scene new s')
    spends None e stay same spent = λ k most h. spent k most (waits (scene old s) (scene r mid) stay same k most h)
    spends (Some turn) e stay same spent = absurd (cc)

  pub past_step : (old new : Scene S) (turn : Option Turn) → IsPast old new → IsStep old new turn
  past_step old new None past = past
  past_step old new (Some turn) past = inl (λ k most h. inr (past k most h))

  -- A poll followed after all turns were taken.
  pub polls_so : (old mid new : Scene S) → IsSpent old mid → Stays mid.links new.links → new.schedule ≡ record mid.schedule { turns = 0 }
      → IsPast old new
  polls_so old mid new spent stay poll k most h =
      let there = spent k (1 + most) h in
      moves 1 mid new stay (polled mid.schedule new.schedule poll there.1) k most there.0

  -- ---- steps one after another

  pub past_again : (count : ℕ) (old mid new : Scene S) → ((count ≡ 0) × (mid ≡ old)) ⊎ IsPast old mid → IsPast mid new → IsPast old new
  past_again count old mid new (inl e) past k most h = past k most (rw e.1 h)
  past_again count old mid new (inr p) past k most h = past k most (longer k mid (omega arith) (p k most h))

  pub turn_again : (count : ℕ) (told : Turn) (old mid new : Scene S) → ((count ≡ 0) × (mid ≡ old)) ⊎ IsPast old mid → IsTurn told mid new
      → IsTurn told old new
  turn_again count told old mid new (inl e) turn = rw (← e.1) turn
  turn_again count told old mid new (inr p) (inl nears) = inl (λ k most h. nears k most (longer k mid (omega arith) (p k most h)))
  turn_again count told old mid new (inr p) (inr free) = inl (λ k most h. free.1 k most (p k most h))

  pub idle_turn : (count : ℕ) (turn : Turn) (old new : Scene S) → 0 < count → ((count ≡ 0) × (new ≡ old)) ⊎ IsPast old new
      → IsTurn turn old new
  idle_turn count turn old new some (inl e) = let none = e.0 in absurd (omega (arith, some, none))
  idle_turn count turn old new some (inr p) = inl (λ k most h. inr (p k most h))

  module _ (k most : ℕ) where
    nears : (acts : List Act) (old new : Scene S) → Acts acts old new → Within k (turns acts + most) old → AllSpare k acts
        → Within k most new
    nears [] old new run h s = rw run (longer k old (omega arith) h)
    nears (Counts turn ∷ acts) old new run h s = elim (run.1 k (turns acts + most) (longer k old (omega arith) h)) [
      | inl served ↦ absurd (s.0 served)
      | inr nearer ↦ nears acts run.0 new run.2 nearer s.1
    ]
    nears (Free turn ∷ acts) old new run h s = elim (run.1.1 k (turns acts + most) h) [
      | inl served ↦ absurd (s.0 served)
      | inr still ↦ nears acts run.0 new run.2 still s.1
    ]
    nears (Lends ∷ acts) old new run h s = nears acts run.0 new run.2 (run.1 k (turns acts + most) h) s.1
    nears (Leaves j ∷ acts) old new run h s = nears acts run.0 new run.2 (run.1 k (turns acts + most) s.0 h) s.1

pub queued_are_served : (S : Type 0) → QueuedAreServed S
queued_are_served S k acts old new run there many spare =
    let least = patience_most old.schedule in
    let first : Within k (turns acts + 0) old = record { queued = there; near = omega (arith, many, least) } in
    let last = (nears k 0 acts old new run first spare).near in
    omega (arith, last)
