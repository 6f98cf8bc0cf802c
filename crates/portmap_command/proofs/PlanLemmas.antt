-- Plans and words, one item more at a time.
use Rattle.std.specs.{List.list_any, Option.option_or, Prelude.is_some}
use Rattle.std.proofs.Common.{◌≡◌, ℕ, ◌+◌, ◌<◌, ◌≤◌, Bool, true, false, cond, List, [], ◌∷◌, ◌++◌, Option, Some, None}
use Rattle.std.proofs.Common.{refl, sym, ap, subst, ◌∙◌, ◌||◌, append_assoc, arith, length, map, take, drop, get_or}
use Rattle.std.proofs.{Common.◌-◌, lemmas.List.{append-nil, take_all}, lemmas.List.Folds.list_any-append}
use Rattle.std.proofs.lemmas.List.Sums.{sum_by_push}
use Rattle.portmap_command.specs.{Meaning.{Holds, Adds}, Words.{Begins, Spells, last_by, is_action}}
use Rattle.portmap_command.specs.{declared.items.Word.{Word, TheVariants.Act}}
use Rattle.portmap_command.specs.Words.{action_of, port_of, addresses_of, timeout_of, workers_of, recording_of, figures_of, is_relaxed}
use Rattle.portmap_command.specs.{Words.{is_daemon, is_debug}, declared.plan.Plan.Plan, declared.words.Action.Action}

-- ---- one item more

or_none : {X : Type 0} (o : Option X) → o ≡ option_or o None
or_none None = refl
or_none (Some x) = refl

or_or : {X : Type 0} (a b c : Option X) → option_or (option_or a b) c ≡ option_or a (option_or b c)
or_or None b c = refl
or_or (Some x) b c = refl

last_by_push : {X : Type 0} (sets : Word → Option X) (items : List Word) (item : Word)
    → last_by sets (items ++ item ∷ []) ≡ option_or (sets item) (last_by sets items)
last_by_push sets [] item = or_none (sets item)
last_by_push sets (x ∷ xs) item = ap (λ (o : _). option_or o (sets x)) (last_by_push sets xs item)
    ∙ or_or (sets item) (last_by sets xs) (sets x)

or_false : (b : Bool) → (b || false) ≡ b
or_false true = refl
or_false false = refl

any_push : (test : Word → Bool) (items : List Word) (item : Word) → list_any test (items ++ item ∷ []) ≡ (list_any test items || test item)
any_push test items item = list_any-append test items (item ∷ []) ∙ ap (λ (b : Bool). list_any test items || b) (or_false (test item))

-- A new action needs a plan without one, and stays.
counted : (item : Word) (old new : Option Action) → new ≡ option_or (action_of item) old → (is_action item ≡ true → is_some old ≡ false)
    → cond (is_some new) 1 0 ≡ cond (is_some old) 1 0 + cond (is_action item) 1 0
counted (Act action) old new e first =
    let none : is_some old ≡ false = first refl in
    let some : is_some new ≡ true = ap is_some e in
    rw (none, some) refl
counted item old new e first =
    let same : ◌≡◌ {A = ℕ} (cond (is_some new) 1 0) (cond (is_some old) 1 0) = ap (λ (o : Option Action). cond (is_some o) 1 0) e in
    omega (arith, same)

-- The new value is that of the last item that sets it.
set_last : {X : Type 0} (sets : Word → Option X) (items : List Word) (item : Word) (old new : Option X)
    → new ≡ option_or (sets item) old → old ≡ last_by sets items → new ≡ last_by sets (items ++ item ∷ [])
set_last sets items item old new a h = a ∙ ap (option_or (sets item)) h ∙ sym (last_by_push sets items item)

pub holds_more : (items : List Word) (item : Word) (old new : Plan) → Holds items old → Adds item old new
    → (is_action item ≡ true → is_some old.action ≡ false) → Holds (items ++ item ∷ []) new
holds_more items item old new h a first = record {
  action = set_last action_of items item old.action new.action a.action h.action;
  actions =
      let k = counted item old.action new.action a.action first in
      omega (arith, sum_by_push (λ (x : Word). cond (is_action x) 1 0) items item, h.actions, k);
  port = set_last port_of items item old.port new.port a.port h.port;
  addresses = set_last addresses_of items item old.addresses new.addresses a.addresses h.addresses;
  timeout = set_last timeout_of items item old.timeout new.timeout a.timeout h.timeout;
  workers = set_last workers_of items item old.workers new.workers a.workers h.workers;
  relaxed = a.relaxed ∙ ap (λ (b : Bool). b || is_relaxed item) h.relaxed ∙ sym (any_push is_relaxed items item);
  debug = a.debug ∙ ap (λ (b : Bool). b || is_debug item) h.debug ∙ sym (any_push is_debug items item);
  daemon = a.daemon ∙ ap (λ (b : Bool). b || is_daemon item) h.daemon ∙ sym (any_push is_daemon items item);
  recording = set_last recording_of items item old.recording new.recording a.recording h.recording;
  figures = set_last figures_of items item old.figures new.figures a.figures h.figures;
}

-- The items of these words up to the rest are in the plan.
pub record HasRead (words rest : List (List ℕ)) (plan : Plan) : Type 0 where
  pub items : List Word
  pub with_more : (more : List Word) → Spells rest more → Spells words (items ++ more)
  pub holds : Holds items plan

pub has_read_more : (words rest after : List (List ℕ)) (item : Word) (old new : Plan) → HasRead words rest old → Begins item rest after
    → Adds item old new → (is_action item ≡ true → is_some old.action ≡ false) → HasRead words after new
has_read_more words rest after item old new s begins a first = record {
  items = s.items ++ item ∷ [];
  with_more = λ more spells. subst (Spells words) (sym (append_assoc s.items (item ∷ []) more))
      (s.with_more (item ∷ more) (after, begins, spells));
  holds = holds_more s.items item old new s.holds a first;
}

pub has_read_all : {X : Type 0} (f : X → List ℕ) (words : List (List ℕ)) (rest : List X) (plan : Plan) → length rest < 1
    → HasRead words (map f rest) plan → (items : List Word) × Spells words items × Holds items plan
has_read_all f words [] plan none s = (s.items, subst (Spells words) (append-nil s.items) (s.with_more [] refl), s.holds)
has_read_all f words (x ∷ xs) plan none s = absurd (omega arith)

-- ---- the words that are left

pub in_prefix : {X : Type 0} (f : X → List ℕ) (xs : List X) (x : X) → 1 ≤ length xs → x ≡ get_or xs 0 x
    → f x ∷ map f (take (length xs - 1) (drop 1 xs)) ≡ map f xs
in_prefix f [] x some e = absurd (omega arith)
in_prefix f (y ∷ ys) x some e =
    let whole = take_all (length (y ∷ ys) - 1) ys (omega arith) in
    λ i. f (e i) ∷ map f (whole i)
