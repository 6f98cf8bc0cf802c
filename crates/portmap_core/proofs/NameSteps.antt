-- How a transition changes the names: not at all, by a retirement, or by a registration.
use Rattle.std.specs.Prelude.{codes, find, not, position, remove, slice_get}
use Rattle.std.proofs.Common.{◌≡◌, ◌≢◌, ℕ, zero, suc, Bool, true, false, cond, List, [], ◌∷◌, ◌++◌, Option, Some, None, eqb, refl}
use Rattle.std.proofs.Common.{sym, ap, subst, ◌∙◌, inl, inr, rules}
use Rattle.std.proofs.lemmas.{Bool.{cases_Bool, cond_both, eqb-true, not-false}, List.Quantifiers.position-Some}
use Rattle.std.proofs.lemmas.Option.{get_or_from_slice_get}
use Rattle.portmap_wire.specs.{Node.Node, Reply.alive_reply, Request.Spells}
use Rattle.portmap_wire.specs.declared.request.Request.{Request, TheVariants.{Alive, Dump, Kill, Port, Stop}}
use Rattle.portmap_wire.specs.declared.request.Request.TheVariants as request
use Rattle.portmap_feed.specs.Stream.{Framing, More, Zero, TooLarge, Whole, first_request}
use Rattle.portmap_table.specs.{Creation.IsLegalCreation, Rows.{Names, active_row, is_active, is_full_for, registered, remembered}}
use Rattle.portmap_table.specs.{Rows.{retired_at, retired_last, retired_of, with_room}, declared.row.Row.Row}
use Rattle.portmap_table.proofs.NameEntry.{has_name}
use Rattle.portmap_core.specs.{Config.Configuration, Entry.{Closed, Connected, Entry, Faulted, Late, Piece}}
use Rattle.portmap_core.specs.Laws.{IsReplied, MayEnd, is_registration}
use Rattle.portmap_core.specs.Serving.{MayGet, Served, ServesReceived, alive_served, closed, registers, replied, served, stops}
use Rattle.portmap_core.specs.{State.State, Step.{AnswersPiece, Effect, Says, Step, outcome_of}}
use Rattle.portmap_core.specs.declared.connection.{Stage.{Stage, TheVariants.{Done, Holding, Waiting}}}
use Rattle.portmap_core.specs.declared.event.Fate.{Fate, TheVariants.Stay}
use Rattle.portmap_core.proofs.Waits.{expires_leads, said}

-- ---- the active row of a name, after another row retires

-- A search has the same result after another element is removed.
module _ {X : Type 0} (p : X → Bool) (y : X) (o : Option X) (other : Some y ≢ o) where
  find_without : (xs : List X) (at : ℕ) → slice_get xs at ≡ Some y → find p xs ≡ o → find p (remove xs at) ≡ o
  find_without [] at there found = absurd cc
  find_without (z ∷ xs) zero there found = elim (cases_Bool (p z)) [
    | inl passes ↦ absurd (other (let same : Some y ≡ Some z = sym there in same ∙ (rw passes at found)))
    | inr fails ↦ rw fails at found
  ]
  find_without (z ∷ xs) (suc at) there found = elim (cases_Bool (p z)) [
    | inl passes ↦ rw passes (rw passes at found)
    | inr fails ↦ rw fails (find_without xs at there (rw fails at found))
  ]

-- The element at the position passes the test.
pub at_passes : {X : Type 0} (p : X → Bool) (xs : List X) (at : ℕ) (x : X) → position p xs ≡ Some at → slice_get xs at ≡ Some x → p x ≡ true
at_passes {X} p xs at x e there = subst (λ (y : X). p y ≡ true) (get_or_from_slice_get xs at x x there) (position-Some p xs at x e).1

module _ (name : List ℕ) (o : Option Row) (names : Names) (found : active_row name names ≡ o) where
  last_stays : (at : ℕ) (last : Option Row) → slice_get names.active at ≡ last → ((y : Row) → last ≡ Some y → Some y ≢ o)
      → active_row name (retired_last at last names) ≡ o
  last_stays at None e other = found
  last_stays at (Some y) e other = find_without (has_name name) y o (other y refl) names.active at e found

  at_stays : (slot : ℕ) (at : Option ℕ) → position (λ (r : Row). eqb r.slot slot) names.active ≡ at
      → ((y : Row) → o ≡ Some y → slot ≢ y.slot) → active_row name (retired_at at names) ≡ o
  at_stays slot None e other = found
  at_stays slot (Some at) e other = last_stays at (slice_get names.active at) refl
      (λ y there is. other y (sym is)
      (sym (eqb-true y.slot slot (at_passes (λ (r : Row). eqb r.slot slot) names.active at y e there))))

  pub row_stays : (slot : ℕ) → ((y : Row) → o ≡ Some y → slot ≢ y.slot) → active_row name (retired_of slot names) ≡ o
  row_stays slot other = at_stays slot (position (λ (r : Row). eqb r.slot slot) names.active) refl other

-- A name that is not active is not active after a retirement.
pub none_stays : (name : List ℕ) (names : Names) (slot : ℕ) → active_row name names ≡ None
    → active_row name (retired_of slot names) ≡ None
none_stays name names slot none = row_stays name None names none slot (λ y is. absurd cc)

-- ---- the names of a result

-- A property of the names before holds of the names of a result if it holds after a retirement and after a registration.
module _ (cfg : Configuration) (names : Names) (local : Bool) (slot : ℕ) (P : Names → Type 0) (here : P names) where
  abbrev Leads : Request → ℕ → Served → Type 0
  Leads request creation o = ((owner : ℕ) → o.reply ≡ codes "STOPPED" → P (retired_of owner names))
      → ((g : Node) → request ≡ Alive g → local ≡ true → o ≡ registers cfg.known_max names slot g creation
      → P (registered g creation slot (with_room cfg.known_max g.name names)))
      → P o.names

  cond_leads : (request : Request) (creation : ℕ) (b : Bool) (x y : Served) → Leads request creation x
      → (b ≡ false → Leads request creation y) → Leads request creation (cond b x y)
  cond_leads request creation b x y first second = cond_both b x y (Leads request creation) (λ _. first) second

  stops_lead : (request : Request) (creation : ℕ) (owner : Option ℕ) → Leads request creation (stops names owner)
  stops_lead request creation None retires registers = here
  stops_lead request creation (Some owner) retires registers = retires owner refl

  served_leads : (request : Request) (creation : ℕ) → Leads request creation (served cfg names local slot request creation)
  served_leads (Alive g) creation =
      cond_leads (Alive g) creation (not local) (closed names) (alive_served cfg names slot g creation) (λ _ _. here) (λ near.
      cond_leads (Alive g) creation (is_active g.name names) (replied names (alive_reply g.high 1 0)) _ (λ _ _. here) (λ _.
      cond_leads (Alive g) creation (is_full_for cfg.known_max g.name names) (replied names (alive_reply g.high 2 0))
      (registers cfg.known_max names slot g creation) (λ _ _. here) (λ _ _ takes. takes g refl (not-false local near) refl)))
  served_leads (Port name) creation = λ _ _. here
  served_leads request.Names creation = λ _ _. here
  served_leads Dump creation = search (rules, cond_leads)
  served_leads Kill creation = search (rules, cond_leads)
  served_leads (Stop name) creation = search (rules, cond_leads, stops_lead)

-- ---- the names after a transition

-- A transition that registers a name.
pub record Registration (cfg : Configuration) (s : State) (e : Entry) (s' : State) : Type 0 where
  pub node : Node
  pub creation : ℕ
  pub reply : List ℕ
  pub replied : IsReplied cfg s (Alive node) reply Stay s'
  pub legal : IsLegalCreation node.high (remembered node.name s.names) creation
  pub counts : is_registration e ≡ true

-- The property holds of the names after a registration.
abbrev pub AtRegistration : Configuration → State → Entry → State → (Names → Type 0) → Type 0
AtRegistration cfg s e s' P =
    (r : Registration cfg s e s') → P (registered r.node r.creation r.replied.slot (with_room cfg.known_max r.node.name s.names))

alive_counts : (slot : ℕ) (piece : List ℕ) (high creation : ℕ)
    → is_registration (Piece slot piece (alive_reply high 0 creation) Stay) ≡ true
alive_counts slot piece high creation = search rules

-- A property of the names before holds of the names after a transition if it holds after a retirement and after a registration.
module _ {cfg : Configuration} {s s' : State} (P : Names → Type 0) (here : P s.names) where
  piece_leads : (slot : ℕ) (piece reply : List ℕ) (fate : Fate) → Says cfg s slot piece reply fate s'
      → ((owner : ℕ) → reply ≡ codes "STOPPED" → P (retired_of owner s.names)) → AtRegistration cfg s (Piece slot piece reply fate) s' P
      → P s'.names
  piece_leads slot piece reply fate says retires takes = by says.connection.stage refl says.response
    where
      out : (o : Effect) → said reply fate s' ≡ o → P o.state.names → P s'.names
      out o is h = subst (λ (o : Effect). P o.state.names) (sym is) h

      by : (stage : Stage) → says.connection.stage ≡ stage → AnswersPiece cfg s slot says.connection piece stage (said reply fate s')
          → P s'.names
      by (Waiting received) waits response =
          out (outcome_of s slot says.connection response.served) response.outcome
          (sight (first_request (received ++ piece)) refl response.response)
        where
          sight : (x : Framing) → first_request (received ++ piece) ≡ x
              → ServesReceived cfg s.names says.connection.local slot (received ++ piece) x response.served → P response.served.names
          sight More whole is = rw is here
          sight Zero whole is = rw is here
          sight (TooLarge n) whole is = rw is here
          sight (Whole body) whole (inr p) = rw p.is here
          sight (Whole body) whole (inl p) =
              let creation = p.serves.creation in
              rw p.serves.is (served_leads cfg s.names says.connection.local slot P here p.request creation
              (λ owner stopped. retires owner
              (ap (λ (o : Effect). o.reply) response.outcome ∙ ap (λ (o : Served). o.reply) p.serves.is ∙ stopped))
              (λ g is local o.
              let served_is : response.served ≡ registers cfg.known_max s.names slot g creation = p.serves.is ∙ o in
              let effect = response.outcome ∙ ap (outcome_of s slot says.connection) served_is in
              takes (record {
                node = g;
                creation = creation;
                reply = reply;
                replied = record {
                  slot = slot;
                  connection = says.connection;
                  body = body;
                  completes = record {
                    received = received;
                    piece = piece;
                    fate = fate;
                    is_open = says.is_open;
                    waits = waits;
                    whole = whole;
                    says = says;
                  };
                  fate_is = ap (λ (o : Effect). o.fate) effect;
                  local = local;
                  spells = subst (λ (r : Request). Spells body r) is p.spells;
                };
                legal = subst (λ (r : Request). MayGet s.names r creation) is (p.serves.legal (ap (λ (o : Served). o.stage) served_is));
                counts = ap (λ (o : Effect). is_registration (Piece slot piece o.reply o.fate)) effect
                    ∙ alive_counts slot piece g.high creation;
              })))
      by Holding waits response = out _ response here
      by Done waits response = out _ response here

  pub names_lead : (e : Entry) → Step cfg s e s' → ((slot : ℕ) → MayEnd slot e → P (retired_of slot s.names)) → AtRegistration cfg s e s' P
      → P s'.names
  names_lead (Connected local slot) step retires takes = rw step.moves.after here
  names_lead (Piece slot piece reply fate) step retires takes = piece_leads slot piece reply fate step.moves retires takes
  names_lead (Closed slot) step retires takes = rw step.moves.after (retires slot refl)
  names_lead (Faulted slot) step retires takes = rw step.moves.after (retires slot refl)
  names_lead (Late slot fate) step retires takes = expires_leads (λ (x : State). P x.names) step.moves here (λ connection. here)
