-- Lemmas: the effect of each call on the links of a worker.
use Rattle.std.specs.{Ordering.nat_cmp, Prelude.{drop, fold, IfSome, is_some, option_map, slice_get, unwrap_or}}
use Rattle.std.specs.FinMap as map
use Rattle.std.proofs.Common.{◌≡◌, ◌≢◌, ℕ, Bool, true, false, Option, Some, None, List, [], ◌∷◌, ◌++◌}
use Rattle.std.proofs.Common.{refl, sym, ap, ◌∙◌, ◌⊎◌, inl, inr, arith, length, take, ◌+◌, ◌≤◌}
use Rattle.std.proofs.{Common.rules, lemmas.Bool.{cases_eq, Decides.nat_tests}, lemmas.Grind.common_steps}
use Rattle.portmap_scheduler.specs.Links.{IsButForRoom, Links, first_at, inserted, link_at, moved}
use Rattle.portmap_scheduler.specs.Links.{state_at, put_at, removed, reported, after_next, write_at, written}
use Rattle.std.proofs.{Math.Seq.{take_all}, lemmas.List.{Sums.fold_more}}
use Rattle.std.proofs.lemmas.{Option.{get_or_from_slice_get, slice_get_cases, slice_get_within}}
use Rattle.portmap_scheduler.{specs.Links.{is_queued, is_idle, pushed}}
use Rattle.portmap_scheduler.{specs.Runs.{Queue, PutBack, Remove}, proofs.Turns.wait_is_bounded}
use Rattle.portmap_scheduler.specs.declared.LinkState.{LinkState, TheVariants.{Idle, Queued, Current}}
use Rattle.portmap_worker.specs.IdleLinks.{Ahead, AllQuiet, AreNoted, Changes, Fact, Has, Holds, IsReported, Keeps, KeepsLinks}
use Rattle.portmap_worker.specs.IdleLinks.{Safe, Spares, Returned, Returns, ReturnsLinks, There}
use Rattle.portmap_worker.specs.IdleLinks.{hears, is_calm, is_safe, noted_at, notes_of, place_reported}
use Rattle.portmap_worker.specs.Keys.{Comes, Ends, come}
use Rattle.portmap_worker.specs.Link.{IsOf}
use Rattle.portmap_worker.specs.declared.source.Turn.{Turn, TheVariants.{Fresh}}
use Rattle.portmap_worker.specs.declared.system.Report.{Report, TheVariants.{Stream}}
use Rattle.portmap_worker.specs.{Quiet.is_quiet, declared.{open_link.OpenLink.OpenLink, readiness.Note.{Note, TheVariants.{Reported}}}}

some_map : {A B : Type 0} (f : A → B) (o : Option A) → is_some (option_map f o) ≡ is_some o
some_map f o = search rules

module _ {S : Type 0} where
  -- The link gets another state, gets another value, or is reported.
  abbrev pub to : LinkState → OpenLink S × LinkState → OpenLink S × LinkState
  to state l = (l.0, state)

  abbrev pub with : OpenLink S → OpenLink S × LinkState → OpenLink S × LinkState
  with v l = (v, l.1)

  abbrev waked : OpenLink S × LinkState → OpenLink S × LinkState
  waked l = (l.0, place_reported l.1)

  abbrev value : Option (OpenLink S × LinkState) → Option (OpenLink S)
  value = option_map (λ l. l.0)

  abbrev noted : Option (OpenLink S × LinkState) → Option (List Note)
  noted = option_map (λ l. notes_of l.0)

  -- ---- the link under a key, and the links under other keys

  put_here : (state : LinkState) (k : ℕ) (o : Option (OpenLink S × LinkState)) (m : map.FinMap nat_cmp (OpenLink S × LinkState))
      → map.get m k ≡ o
      → map.get (put_at state k o m) k ≡ option_map (to state) o
  put_here state k None m e = e
  put_here state k (Some l) m e = grind (arith, nat_tests, map.gets)

  put_there : (state : LinkState) (k : ℕ) (o : Option (OpenLink S × LinkState)) (m : map.FinMap nat_cmp (OpenLink S × LinkState)) (q : ℕ)
      → q ≢ k
      → map.get (put_at state k o m) q ≡ map.get m q
  put_there state k None m q d = refl
  put_there state k (Some l) m q d = grind (arith, nat_tests, map.gets, d)

  write_here : (k : ℕ) (v : OpenLink S) (o : Option (OpenLink S × LinkState)) (m : map.FinMap nat_cmp (OpenLink S × LinkState))
      → map.get m k ≡ o
      → map.get (write_at k v o m) k ≡ option_map (with v) o
  write_here k v None m e = e
  write_here k v (Some l) m e = grind (arith, nat_tests, map.gets)

  write_there : (k : ℕ) (v : OpenLink S) (o : Option (OpenLink S × LinkState)) (m : map.FinMap nat_cmp (OpenLink S × LinkState)) (q : ℕ)
      → q ≢ k
      → map.get (write_at k v o m) q ≡ map.get m q
  write_there k v None m q d = refl
  write_there k v (Some l) m q d = grind (arith, nat_tests, map.gets, d)

  -- ---- a link

  pub moved_here : (state : LinkState) (k : ℕ) (r : Links (OpenLink S)) → link_at (moved state k r) k ≡ option_map (to state) (link_at r k)
  moved_here state k r = put_here state k (link_at r k) r.links refl

  pub written_here : (k : ℕ) (v : OpenLink S) (r : Links (OpenLink S)) → link_at (written k r v) k ≡ option_map (with v) (link_at r k)
  written_here k v r = write_here k v (link_at r k) r.links refl

  reported_at : (o : Option (OpenLink S × LinkState)) (k : ℕ) (r : Links (OpenLink S)) → link_at r k ≡ o
      → link_at (reported k r) k ≡ option_map waked o
  reported_at (Some (v, Idle)) k r h = search (rules, put_here)
  reported_at o k r h = search (rules, put_here)

  pub reported_here : (k : ℕ) (r : Links (OpenLink S)) → link_at (reported k r) k ≡ option_map waked (link_at r k)
  reported_here k r = reported_at (link_at r k) k r refl

  -- Both have the same links, except perhaps under this key.
  pub record Alike (k : ℕ) (old new : Links (OpenLink S)) : Type 0 where
    pub others : (q : ℕ) → q ≢ k → link_at new q ≡ link_at old q
    pub there : is_some (link_at new k) ≡ is_some (link_at old k)

  pub itself : (k : ℕ) (r : Links (OpenLink S)) → Alike k r r
  itself k r = record { others = λ q d. refl; there = refl }

  pub then_written : (k : ℕ) (v : OpenLink S) (old r : Links (OpenLink S)) → Alike k old r → Alike k old (written k r v)
  then_written k v old r a = record {
    others = λ q d. write_there k v (link_at r k) r.links q d ∙ a.others q d;
    there = ap is_some (written_here k v r) ∙ some_map (with v) (link_at r k) ∙ a.there;
  }

  pub then_moved : (state : LinkState) (k : ℕ) (old r : Links (OpenLink S)) → Alike k old r → Alike k old (moved state k r)
  then_moved state k old r a = record {
    others = λ q d. put_there state k (link_at r k) r.links q d ∙ a.others q d;
    there = ap is_some (moved_here state k r) ∙ some_map (to state) (link_at r k) ∙ a.there;
  }

  pub then_reported : (k : ℕ) (old r : Links (OpenLink S)) → Alike k old r → Alike k old (reported k r)
  then_reported k old r a = record {
    others = λ q d. here k r q d ∙ a.others q d;
    there = ap is_some (reported_here k r) ∙ some_map waked (link_at r k) ∙ a.there;
  }
    where
      here : (k : ℕ) (r : Links (OpenLink S)) (q : ℕ) → q ≢ k → link_at (reported k r) q ≡ link_at r q
      here k r q d = search (rules, put_there)

  -- Only the links count, and not the lists.
  alike : (k : ℕ) (old r new : Links (OpenLink S)) → new.links ≡ r.links → Alike k old r → Alike k old new
  alike k old r new e a = record {
    others = λ q d. ap (λ m. map.get m q) e ∙ a.others q d;
    there = ap (λ m. is_some (map.get m k)) e ∙ a.there;
  }

  -- ---- queued links

  abbrev pub seen : Links (OpenLink S) → map.FinMap nat_cmp (OpenLink S × LinkState) × List ℕ
  seen r = (r.links, r.queue)

  -- Every queued link stays queued, behind no more links than before.
  abbrev pub Stays : Links (OpenLink S) → Links (OpenLink S) → Type 0
  Stays old new = (q most : ℕ) → Holds (Ahead q most) old → Holds (Ahead q most) new

  pub stays : (old new : Links (OpenLink S)) → new.queue ≡ old.queue → Stays old new
  stays old new e q most h = rw e h

  -- A key may have joined the queue.
  pub joins : (b : Bool) (k : ℕ) (old new : Links (OpenLink S)) → new.queue ≡ pushed b k old.queue → Stays old new
  joins false k old new e q most h = rw e h
  joins true k old new e q most h =
      let there = h.0 in
      let near = h.1 in
      let still = wait_is_bounded Queue q (PutBack k ∷ []) old (moved Queued k old) (moved Queued k old, refl, refl) there (tt, tt) in
      let less = still.1 in
      rw e (still.0, omega (arith, near, less))

  pub reports_stay : (k : ℕ) (r : Links (OpenLink S)) → Stays r (reported k r)
  reports_stay k r = at (is_idle (state_at r k)) refl
    where
      at : (b : Bool) → is_idle (state_at r k) ≡ b → Stays r (reported k r)
      at true e = joins true k r (reported k r) (search (rules, e))
      at false e = stays r (reported k r) (search (rules, e))

  -- Facts about links stay true, if the link under this key stays safe.
  keep_so : (k : ℕ) (old new : Links (OpenLink S)) → Alike k old new
      → (is_safe (link_at old k) ≡ true → is_safe (link_at new k) ≡ true) → KeepsLinks old new
  keep_so k old new a safe (There q there) l h = elim (cases_eq q k) [
    | inl same ↦ rw same (a.there ∙ (rw same at h))
    | inr differs ↦ ap is_some (a.others q differs) ∙ h
  ]
  keep_so k old new a safe (Safe q) l h = elim (cases_eq q k) [
    | inl same ↦ rw same (safe (rw same at h))
    | inr differs ↦ ap is_safe (a.others q differs) ∙ h
  ]
  keep_so k old new a safe (Ahead q most) l h = absurd l

  pub keeps_both : (old new : Links (OpenLink S)) → KeepsLinks old new → Stays old new → Keeps old new
  keeps_both old new links queue (There q there) h = links (There q there) tt h
  keeps_both old new links queue (Safe q) h = links (Safe q) tt h
  keeps_both old new links queue (Ahead q most) h = queue q most h

  pub stays_of : (old new : Links (OpenLink S)) → Keeps old new → Stays old new
  stays_of old new keeps q most h = keeps (Ahead q most) h

  pub keep : (k : ℕ) (old new : Links (OpenLink S)) → Alike k old new → Stays old new → is_safe (link_at new k) ≡ true → Keeps old new
  keep k old new a queue safe = keeps_both old new (keep_so k old new a (λ _. safe)) queue

  all_safe : (f : OpenLink S × LinkState → OpenLink S × LinkState) (o : Option (OpenLink S × LinkState))
      → ((l : OpenLink S × LinkState) → o ≡ Some l → is_safe (Some (f l)) ≡ true) → is_safe (option_map f o) ≡ true
  all_safe f None h = refl
  all_safe f (Some l) h = h l refl

  waked_safe : (o : Option (OpenLink S × LinkState)) → is_safe (option_map waked o) ≡ true
  waked_safe (Some (v, Idle)) = refl
  waked_safe o = refl

  -- ---- changes

  -- The link gets this state. Its key goes to the end of the queue if the state is `Queued`.
  abbrev pub IsMoved : LinkState → ℕ → Links (OpenLink S) → Links (OpenLink S) → Type 0
  IsMoved state k r new = seen new ≡ seen (moved state k r)

  module _ (state : LinkState) (k : ℕ) (old r new : Links (OpenLink S)) where
    goes : Alike k old r → Stays old r → IsMoved state k r new → ((v : OpenLink S) → is_safe (Some (v, state)) ≡ true) → Keeps old new
    goes others queue e safe =
        let links = ap (λ p. p.0) e in
        keep k old new (alike k old (moved state k r) new links (then_moved state k old r others))
        (λ q most h. joins (is_queued state) k r new (ap (λ p. p.1) e) q most (queue q most h))
        (ap is_safe (ap (λ m. map.get m k) links ∙ moved_here state k r) ∙ all_safe (to state) (link_at r k) (λ l _. safe l.0))

  -- The link also gets another value.
  pub placed : (state : LinkState) (k : ℕ) (v : OpenLink S) (old new : Links (OpenLink S)) → IsMoved state k (written k old v) new
      → ((v : OpenLink S) → is_safe (Some (v, state)) ≡ true) → Keeps old new
  placed state k v old new = goes state k old (written k old v) new (then_written k v old old (itself k old)) (λ q most h. h)

  module _ (state : LinkState) (k : ℕ) (old r new : Links (OpenLink S)) where
    -- The link keeps its value, or gets another value.
    pub sent : ((v : OpenLink S) × (r ≡ written k old v)) ⊎ (r ≡ old) → IsMoved state k r new
        → ((v : OpenLink S) → is_safe (Some (v, state)) ≡ true) → Keeps old new
    sent (inl (v, h)) e = placed state k v old new (e ∙ ap (λ r. seen (moved state k r)) h)
    sent (inr h) e = goes state k old old new (itself k old) (λ q most h. h) (e ∙ ap (λ r. seen (moved state k r)) h)

  -- The link gets another value, and is idle.
  pub idles : (k : ℕ) (v : OpenLink S) (old new : Links (OpenLink S)) → new ≡ moved Idle k (written k old v)
      → is_quiet (notes_of v) ≡ true → Keeps old new
  idles k v old new e quiet =
      rw e (keep k old _ (then_moved Idle k old (written k old v) (then_written k v old old (itself k old))) (λ q most h. h)
      (ap is_safe (moved_here Idle k (written k old v) ∙ ap (option_map (to Idle)) (written_here k v old)) ∙ at (link_at old k)))
    where
      at : (o : Option (OpenLink S × LinkState)) → is_safe (option_map (to Idle) (option_map (with v) o)) ≡ true
      at None = refl
      at (Some l) = quiet

  module _ (k : ℕ) (v : OpenLink S) (old r : Links (OpenLink S)) where
    -- The link was reported.
    pub wakes : (new : Links (OpenLink S)) → Alike k old r → Stays old r → new ≡ reported k (written k r v) → Keeps old new
    wakes new others queue e =
        rw e (keep k old (reported k (written k r v)) (then_reported k old (written k r v) (then_written k v old r others))
        (λ q most h. reports_stay k (written k r v) q most (queue q most h))
        (ap is_safe (reported_here k (written k r v)) ∙ waked_safe (link_at (written k r v) k)))

  -- The link gets another value, which is calm if the old value was.
  pub kept_so : (k : ℕ) (r : Links (OpenLink S)) (h v : OpenLink S) → Some h ≡ value (link_at r k)
      → (is_calm h ≡ true → is_calm v ≡ true) → Keeps r (written k r v)
  kept_so k r h v is same =
      keeps_both r (written k r v) (keep_so k r (written k r v) (then_written k v r r (itself k r)) (λ safe.
      ap is_safe (written_here k v r) ∙ at (link_at r k) is safe)) (λ q most h. h)
    where
      at : (o : Option (OpenLink S × LinkState)) → Some h ≡ value o → is_safe o ≡ true → is_safe (option_map (with v) o) ≡ true
      at (Some (t, Idle)) e s = same (ap (λ o. is_calm (unwrap_or o h)) e ∙ s)
      at o e s = refl

  pub as_calm : (k : ℕ) (r : Links (OpenLink S)) (h v : OpenLink S) → Some h ≡ value (link_at r k)
      → notes_of v ≡ notes_of h → Keeps r (written k r v)
  as_calm k r h v is notes = kept_so k r h v is (λ calm. ap is_quiet notes ∙ calm)

  -- The link was reported before it got another value.
  pub lent : (k : ℕ) (v : OpenLink S) (old r : Links (OpenLink S)) → r ≡ reported k old → Keeps old (written k r v)
  lent k v old r e =
      let alike : Alike k old r = rw e (then_reported k old old (itself k old)) in
      let queue : Stays old r = rw e (reports_stay k old) in
      keep k old (written k r v) (then_written k v old r alike) queue
      (ap is_safe (written_here k v r ∙ ap (option_map (with v)) (ap (λ r. link_at r k) e ∙ reported_here k old)) ∙ at (link_at old k))
    where
      at : (o : Option (OpenLink S × LinkState)) → is_safe (option_map (with v) (option_map waked o)) ≡ true
      at (Some (t, Idle)) = refl
      at o = refl

  -- The link is there if and only if it was there before.
  pub there_before : (k : ℕ) (old r : Links (OpenLink S)) (o : Option (OpenLink S)) → r ≡ reported k old → o ≡ value (link_at r k)
      → Has old k (is_some o)
  there_before k old r o e is =
      sym (ap is_some is ∙ some_map (λ (l : OpenLink S × LinkState). l.0) (link_at r k) ∙ ap (λ r. is_some (link_at r k)) e
      ∙ (then_reported k old old (itself k old)).there)

  pub reports : (k : ℕ) (old r : Links (OpenLink S)) → r ≡ reported k old → Keeps old r
  reports k old r e =
      rw e (keep k old (reported k old) (then_reported k old old (itself k old)) (reports_stay k old)
      (ap is_safe (reported_here k old) ∙ waked_safe (link_at old k)))

  same_links : (old new : Links (OpenLink S)) → new.links ≡ old.links → KeepsLinks old new
  same_links old new e (There q there) l h = ap (λ m. is_some (map.get m q)) e ∙ h
  same_links old new e (Safe q) l h = ap (λ m. is_safe (map.get m q)) e ∙ h
  same_links old new e (Ahead q most) l h = absurd l

  -- The first key of a list gets another state.
  pub first_goes : (state : LinkState) (o : Option ℕ) (old new : Links (OpenLink S)) → new.links ≡ first_at state o old.links
      → ((v : OpenLink S) → is_safe (Some (v, state)) ≡ true) → KeepsLinks old new
  first_goes state None old new e safe = same_links old new e
  first_goes state (Some k) old new e safe =
      keep_so k old new (alike k old (moved state k old) new e (then_moved state k old old (itself k old)))
      (λ _. ap is_safe (ap (λ m. map.get m k) e ∙ moved_here state k old) ∙ all_safe (to state) (link_at old k) (λ l _. safe l.0))

  pub refused : (old new : Links (OpenLink S)) → IsButForRoom new old → Keeps old new
  refused old new e =
      keeps_both old new (same_links old new (ap (λ (r : Links (OpenLink S)). r.links) e))
      (stays old new (ap (λ (r : Links (OpenLink S)). r.queue) e))

  -- The first pending link is taken.
  pub taken : (state : LinkState) (o : Option ℕ) (old new : Links (OpenLink S)) → seen new ≡ (first_at state o old.links, old.queue)
      → ((v : OpenLink S) → is_safe (Some (v, state)) ≡ true) → Keeps old new
  taken state o old new e safe =
      keeps_both old new (first_goes state o old new (ap (λ p. p.0) e) safe) (stays old new (ap (λ p. p.1) e))

  pub first_others : (state : LinkState) (k : ℕ) (o : Option ℕ) (old new : Links (OpenLink S)) → o ≡ Some k
      → new.links ≡ first_at state o old.links → Alike k old new
  first_others state k None old new s e = absurd (cc)
  first_others state k (Some j) old new s e =
      alike k old (moved state k old) new (e ∙ ap (λ o. first_at state o old.links) s) (then_moved state k old old (itself k old))

  -- The first queued link becomes the current link, and gets another value.
  pub current_written : (k : ℕ) (old r : Links (OpenLink S)) (v : OpenLink S) → slice_get old.queue 0 ≡ Some k
      → r ≡ after_next old
      → KeepsLinks old (written k r v)
  current_written k old r v s h =
      let links = ap (λ (r : Links (OpenLink S)). r.links) h in
      keep_so k old (written k r v) (then_written k v old r (first_others Current k (slice_get old.queue 0) old r s links))
      (λ _. ap is_safe (written_here k v r
      ∙ ap (option_map (with v)) (ap (λ m. map.get m k) (links ∙ ap (λ o. first_at Current o old.links) s)
      ∙ put_here Current k (link_at old k) old.links refl)) ∙ at (link_at old k))
    where
      at : (o : Option (OpenLink S × LinkState)) → is_safe (option_map (with v) (option_map (to Current) o)) ≡ true
      at None = refl
      at (Some l) = refl

  -- No link is queued.
  pub none_current : (old new : Links (OpenLink S)) → slice_get old.queue 0 ≡ None → new ≡ after_next old → Keeps old new
  none_current old new s e =
      keeps_both old new (first_goes Current (slice_get old.queue 0) old new (ap (λ (r : Links (OpenLink S)). r.links) e) (λ v. refl))
      (stays old new (ap (λ (r : Links (OpenLink S)). r.queue) e ∙ at old.queue s))
    where
      at : (xs : List ℕ) → slice_get xs 0 ≡ None → drop 1 xs ≡ xs
      at [] e = refl
      at (x ∷ xs) e = absurd (cc)

  -- ---- the effect of a report on a link

  module _ (k : ℕ) (r new : Links (OpenLink S)) (h v : OpenLink S) where
    pub reported_so : Some h ≡ value (link_at r k) → notes_of v ≡ notes_of h ++ Reported ∷ [] → new ≡ reported k (written k r v)
        → IsReported (link_at r k) (link_at new k)
    reported_so is noted e =
        at (link_at r k) (link_at new k) is
        (ap (λ r. link_at r k) e ∙ reported_here k (written k r v) ∙ ap (option_map waked) (written_here k v r))
      where
        at : (o n : Option (OpenLink S × LinkState)) → Some h ≡ value o → n ≡ option_map waked (option_map (with v) o) → IsReported o n
        at None n is e = e
        at (Some (t, state)) n is e = rw e (refl, noted ∙ ap (λ o. notes_of (unwrap_or o h) ++ Reported ∷ []) is)

  -- ---- links that arrive and end

  module _ (k : ℕ) (comes : Bool) (old new : Links (OpenLink S)) where
    but : ((q : ℕ) → q ≢ k → link_at new q ≡ link_at old q)
        → ((q most : ℕ) → Spares k comes (Ahead q most) → Holds (Ahead q most) old → Holds (Ahead q most) new)
        → is_safe (link_at new k) ≡ true → (fact : Fact) → Spares k comes fact → Holds fact old → Holds fact new
    but others queue safe (There q t) d h = ap is_some (others q d) ∙ h
    but others queue safe (Safe q) d h = elim (cases_eq q k) [
      | inl same ↦ rw same safe
      | inr differs ↦ ap is_safe (others q differs) ∙ h
    ]
    but others queue safe (Ahead q most) d h = queue q most d h

  -- A link arrived under a free key.
  pub after_insert : (k : ℕ) (old new : Links (OpenLink S)) (v : OpenLink S) → link_at old k ≡ None
      → IsButForRoom new (inserted k v old) → Has old k false × Changes k true old new
  after_insert k old new v free e =
      let links : new.links ≡ map.insert old.links k (v, Queued) = ap (λ (r : Links (OpenLink S)). r.links) e in
      let here : link_at new k ≡ Some (v, Queued) = rw links (grind (arith, nat_tests, map.gets)) in
      let others : (q : ℕ) → q ≢ k → link_at new q ≡ link_at old q = λ q d. rw links (grind (arith, nat_tests, map.gets, d)) in (
        ap is_some free,
        record {
          now = ap is_some here;
          others = but k true old new others (λ q most _. joins true k old new (ap (λ (r : Links (OpenLink S)). r.queue) e) q most)
              (ap is_safe here);
        },
      )

  -- The link has ended.
  pub after_remove : (k : ℕ) (old new : Links (OpenLink S)) → IsButForRoom new (removed k old) → Changes k false old new
  after_remove k old new e =
      let links : new.links ≡ map.remove old.links k = ap (λ (r : Links (OpenLink S)). r.links) e in
      let here : link_at new k ≡ None = rw links (grind (arith, nat_tests, map.gets)) in
      let others : (q : ℕ) → q ≢ k → link_at new q ≡ link_at old q = λ q d. rw links (grind (arith, nat_tests, map.gets, d)) in
      record { now = ap is_some here; others = but k false old new others queue (ap is_safe here) }
    where
      queue : (q most : ℕ) → q ≢ k → Holds (Ahead q most) old → Holds (Ahead q most) new
      queue q most d h =
          let there = h.0 in
          let near = h.1 in
          let other : k ≢ q = λ e. d (sym e) in
          let still = wait_is_bounded Queue q (Remove k ∷ []) old (removed k old) (removed k old, refl, refl) there (other, tt) in
          let less = still.1 in
          rw (ap (λ (r : Links (OpenLink S)). r.queue) e) (still.0, omega (arith, near, less))

  pub ends : (k : ℕ) (old new : Links (OpenLink S)) → Changes k false old new → Ends k (Has old) (Has new)
  ends k old new c = record { gone = c.now; others = λ q there d h. c.others (There q there) d h }

  nothing : (k : ℕ) (m : map.FinMap nat_cmp (OpenLink S × LinkState)) → m ≡ map.empty → map.get m k ≡ None
  nothing k m e = grind (arith, common_steps, map.gets, e)

  pub none : (new : Links (OpenLink S)) → new.links ≡ map.empty → AllQuiet new
  none new e = record { safe = λ q. ap is_safe (nothing q new.links e) }

  pub none_there : (new : Links (OpenLink S)) → new.links ≡ map.empty → (k : ℕ) → Has new k false
  none_there new e k = ap is_some (nothing k new.links e)

  -- ---- turns

  none_before : (key : ℕ) (old r : Links (OpenLink S)) → Keeps old r → Has r key false → Has old key false
  none_before key old r k none = at (is_some (link_at old key)) refl
    where
      at : (there : Bool) → Has old key there → Has old key false
      at false h = h
      at true h = let both : true ≡ false = sym (k (There key true) h) ∙ none in absurd (cc)

  pub returned_none : (old new : Links (OpenLink S)) (turn : Option Turn) → is_some turn ≡ false → ReturnsLinks old new turn → Keeps old new
  returned_none old new None e t = t
  returned_none old new (Some turn) e t = absurd (cc)

  -- `Keeps` before a turn and the effect of the turn are together such an effect.
  then_returned : {kept more : Type 0} (old r new : Links (OpenLink S)) (turn : Option Turn) → (kept → more) → Keeps old r
      → Returned kept r new turn → Returned more old new turn
  then_returned old r new None f k t = λ fact h. t fact (k fact h)
  then_returned old r new (Some (Fresh key local)) f k t =
      (none_before key old r k t.0, record { now = t.1.now; others = λ fact s h. t.1.others fact s (k fact h) })
  then_returned old r new turn f k t = f t

  pub then_returns : (old r new : Links (OpenLink S)) (turn : Option Turn) → Keeps old r → Returns r new turn → Returns old new turn
  then_returns old r new turn k = then_returned {kept = Keeps r new} {more = Keeps old new} old r new turn (λ t fact h. t fact (k fact h)) k

  pub then_returns_links : (old r new : Links (OpenLink S)) (turn : Option Turn) → Keeps old r → ReturnsLinks r new turn
      → ReturnsLinks old new turn
  then_returns_links old r new turn k =
      then_returned {kept = KeepsLinks r new} {more = KeepsLinks old new} old r new turn (λ t fact l h. t fact l (k fact h)) k

  pub weaker : (old new : Links (OpenLink S)) (turn : Option Turn) → Returns old new turn → ReturnsLinks old new turn
  weaker old new turn = then_returned {kept = Keeps old new} {more = KeepsLinks old new} old old new turn (λ t fact _. t fact) (λ fact h. h)

  -- No queued link falls back by a turn.
  pub returned_stays : (old new : Links (OpenLink S)) (turn : Option Turn) → Returns old new turn → Stays old new
  returned_stays old new (Some (Fresh key local)) t q most h = t.1.others (Ahead q most) tt h
  returned_stays old new turn t q most h = t (Ahead q most) h

  pub returns_of : (key : Option ℕ) (turn : Turn) (old new : Links (OpenLink S)) → IsOf key turn → KeepsLinks old new
      → ReturnsLinks old new (Some turn)
  returns_of key (Fresh k local) old new of keeps = absurd of
  returns_of key turn old new of keeps = keeps

  none_come : (turn : Turn) (old new : Links (OpenLink S)) → come turn ≡ None → KeepsLinks old new → Comes (Has old) (Has new) turn
  none_come turn old new none keeps = record {
    free = λ k e. let both : None ≡ Some k = sym none ∙ e in absurd (cc);
    there = λ k e. let both : None ≡ Some k = sym none ∙ e in absurd (cc);
    others = λ k there d h. keeps (There k there) tt h;
  }

  pub comes : (turn : Turn) (old new : Links (OpenLink S)) → ReturnsLinks old new (Some turn) → Comes (Has old) (Has new) turn
  comes (Fresh key local) old new t = record {
    free = λ k e. rw (sym (same k e)) t.0;
    there = λ k e. rw (sym (same k e)) t.1.now;
    others = λ k there d h. t.1.others (There k there) (λ e. d (ap Some (sym e))) h;
  }
    where
      same : (k : ℕ) → Some key ≡ Some k → key ≡ k
      same k e = ap (λ o. unwrap_or o key) e
  comes turn old new t = none_come turn old new refl t

  -- ---- reports that are noted

  pub one_noted : (key : ℕ) (closed : Bool) (old new : Links (OpenLink S)) → IsReported (link_at old key) (link_at new key)
      → ((q : ℕ) → q ≢ key → link_at new q ≡ link_at old q) → (k : ℕ) → noted_at new k ≡ hears k (noted_at old k) (Stream key closed)
  one_noted key closed old new reported others k = elim (cases_eq k key) [
    | inl same ↦ rw same (here (link_at old key) (link_at new key) reported)
    | inr differs ↦ ap noted (others k differs) ∙ there (link_at old k) differs
  ]
    where
      here : (o n : Option (OpenLink S × LinkState)) → IsReported o n → noted n ≡ hears key (noted o) (Stream key closed)
      here None n e = rw e (grind (arith, nat_tests))
      here (Some o) None e = absurd (cc)
      here (Some o) (Some n) e = rw e.1 (grind (arith, nat_tests))

      there : (o : Option (OpenLink S × LinkState)) → k ≢ key → noted o ≡ hears k (noted o) (Stream key closed)
      there o d = grind (arith, nat_tests, d)

  module _ (n : ℕ) (event : Report) (old between new : Links (OpenLink S)) where
    -- One more report is noted.
    pub more_noted : (o : Option (List Report)) → IfSome o (λ reports. Some event ≡ slice_get reports n)
        → IfSome o (λ reports. AreNoted (take n reports) old between) → ((k : ℕ) → noted_at new k ≡ hears k (noted_at between k) event)
        → IfSome o (λ reports. AreNoted (take (n + 1) reports) old new)
    more_noted None e noted more = tt
    more_noted (Some reports) e noted more = λ k.
        more k ∙ ap (λ o. hears k o event) (noted k)
        ∙ ap (hears k (fold (hears k) (noted_at old k) (take n reports))) (sym (get_or_from_slice_get reports n event event (sym e)))
        ∙ sym (fold_more (hears k) (noted_at old k) reports n event (slice_get_within reports n event (sym e)))

  module _ (n most : ℕ) (old new : Links (OpenLink S)) where
    -- All reports are noted.
    pub all_noted : (o : Option (List Report)) → IfSome o (λ reports. None ≡ slice_get reports n) → n ≤ most
        → IfSome o (λ reports. AreNoted (take n reports) old new) → IfSome o (λ reports. AreNoted (take most reports) old new)
    all_noted None e below noted = tt
    all_noted (Some reports) e below noted = λ k. noted k ∙ ap (fold (hears k) (noted_at old k)) (sym no_more)
      where
        no_more : take most reports ≡ take n reports
        no_more =
            let none : None ≡ slice_get reports n = e in
            let short : length reports ≤ n = elim (slice_get_cases reports n).1 [
              | inl x ↦ absurd (cc)
              | inr past ↦ past.0
            ] in
            take_all most reports (omega arith) ∙ sym (take_all n reports short)
