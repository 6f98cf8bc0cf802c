-- The results of refused local registrations, and the condition under which a local KILL ends the port mapper.
use Rattle.std.specs.Prelude.{codes, is_some, length, ◌==◌, ◌||◌}
use Rattle.std.proofs.Common.{◌≡◌, ℕ, Bool, true, List, refl, sym, ap, ◌∙◌, rules}
use Rattle.std.proofs.{lemmas.Bool.{le-leb, ne_eqb, or_parts}, lemmas.List.nil_from_length}
use Rattle.portmap_wire.specs.declared.request.Request.{Request}
use Rattle.portmap_table.specs.Rows.{is_active, retired_row}
use Rattle.portmap_core.specs.{Config.Configuration, Laws.{ActiveNamesAreTaken, IsRefused, IsReplied, KillsAreRefused}}
use Rattle.portmap_core.specs.{Laws.{KillsEnd, NewNamesWantRoom, refusal}, Serving.{MayGet, Served, halts, replied, served}}
use Rattle.portmap_core.specs.{State.State, Step.{Effect, outcome_of}}
use Rattle.portmap_core.specs.{declared.connection.Stage.TheVariants.Holding, declared.event.Fate.Fate}
use Rattle.portmap_core.proofs.{Shown.serves_at, Waits.said}

-- The effect of a request, with the creation that a registration gets.
pub served_at : {cfg : Configuration} {s s' : State} {request : Request} {reply : List ℕ} {fate : Fate}
    (t : IsReplied cfg s request reply fate s')
    → (creation : ℕ) × ((served cfg s.names true t.slot request creation).stage ≡ Holding → MayGet s.names request creation)
    × (said reply fate s' ≡ outcome_of s t.slot t.connection (served cfg s.names true t.slot request creation))
served_at {cfg} {s} {s'} {request} {reply} {fate} t =
    let (o, serves, is) = serves_at t.completes request t.spells in
    let near : o ≡ served cfg s.names true t.slot request serves.creation =
    serves.is ∙ ap (λ (b : Bool). served cfg s.names b t.slot request serves.creation) t.local in (
      serves.creation,
      λ h. serves.legal (ap (λ (x : Served). x.stage) near ∙ h),
      ap (λ (f : Fate). said reply f s') (sym t.fate_is) ∙ is ∙ ap (outcome_of s t.slot t.connection) near,
    )

-- The effect of a request whose result does not depend on the creation.
pub concluded : {cfg : Configuration} {s s' : State} {request : Request} {reply : List ℕ} {fate : Fate}
    (t : IsReplied cfg s request reply fate s') (o : Served) → ((creation : ℕ) → served cfg s.names true t.slot request creation ≡ o)
    → said reply fate s' ≡ outcome_of s t.slot t.connection o
concluded {s = s} t o is = let by = served_at t in by.2 ∙ ap (outcome_of s t.slot t.connection) (is by.0)

refuses : {cfg : Configuration} {s s' : State} {request : Request} {reply : List ℕ} {fate : Fate}
    (t : IsReplied cfg s request reply fate s')
    (text : List ℕ) → ((creation : ℕ) → served cfg s.names true t.slot request creation ≡ replied s.names text)
    → IsRefused s text reply fate s'
refuses {cfg} {s} t text is =
    let o = concluded t (replied s.names text) is in
    record {
      reply_is = ap (λ (x : Effect). x.reply) o;
      closes = ap (λ (x : Effect). x.fate) o;
      names = ap (λ (x : Effect). x.state.names) o;
      halted = ap (λ (x : Effect). x.state.halted) o;
    }

pub active_names_are_taken : ActiveNamesAreTaken
active_names_are_taken cfg s s' g row reply fate t active =
    refuses t (refusal g.high 1) (λ creation. let is = ap is_some active in rw is refl)

pub new_names_want_room : NewNamesWantRoom
new_names_want_room cfg s s' g reply fate t new full =
    let strange = or_parts (is_active g.name s.names) (is_some (retired_row g.name s.names)) new in
    let most = le-leb cfg.known_max (length s.names.active) full in
    refuses t (refusal g.high 2) (λ creation. rw (strange.0, most, strange.1) refl)

pub kills_end : KillsEnd
kills_end cfg s s' reply fate t may =
    let ends : (length s.names.active == 0 || cfg.relaxed) ≡ true = search rules in
    let o = concluded t (halts s.names) (λ creation. rw ends refl) in
    (ap (λ (x : Effect). x.reply) o, ap (λ (x : Effect). x.fate) o, ap (λ (x : Effect). x.state.halted) o)

pub kills_are_refused : KillsAreRefused
kills_are_refused cfg s s' reply fate t some strict =
    let active = ne_eqb (length s.names.active) 0 (λ e. some (nil_from_length s.names.active e)) in
    refuses t (codes "NO") (λ creation. rw (active, strict) refl)
