-- The response that the code computes before any change is a correct result.
use Rattle.std.specs.Prelude.{IfOk, if◌then◌else◌}
use Rattle.std.proofs.Common.{◌≡◌, ℕ, Bool, true, false, cond, List, Option, Some, None, sym, ap, subst, ◌∙◌, inl}
use Rattle.std.proofs.{Common.{Result, rules}, lemmas.{Bool.cond-false, Result.IfOk-weaker}}
use Rattle.portmap_wire.specs.{Node.Node, Reply.alive_reply, Request.Spells}
use Rattle.portmap_wire.specs.declared.request.Request.{Request, TheVariants.Alive}
use Rattle.portmap_feed.specs.Stream.{Framing, More, Zero, TooLarge, Whole, body_in, first_request, kept}
use Rattle.portmap_feed.proofs.StreamLaws.{first_request-kept, kept_more}
use Rattle.portmap_table.specs.Creation.{IsLegalCreation, choice}
use Rattle.portmap_table.specs.Rows.{Names, is_active, is_full_for, registered, remembered, name_status, with_room}
use Rattle.portmap_table.specs.declared.name_status.NameStatus.{NameStatus}
use Rattle.portmap_table.specs.declared.name_status.NameStatus.TheVariants as how
use Rattle.portmap_core.specs.{Config.Configuration, Held.stage_held}
use Rattle.portmap_core.specs.Serving.{Served, Serves, ServesBody, ServesReceived, alive_served, registers, replied}
use Rattle.portmap_core.specs.Responding.{RespondsAtAnySlot, IsOnlyResponse, IsChosen, MayChange, MayRegister, IsResponseAtAnySlot}
use Rattle.portmap_core.specs.Responding.{names_after}
use Rattle.portmap_core.specs.{Responding.{served_by, stopped_by}, declared.asked.RequestContext.RequestContext}
use Rattle.portmap_core.specs.declared.connection.Stage.TheVariants.{Holding}
use Rattle.portmap_core.specs.{declared.event.Fate.TheVariants.{Close, Stay}, declared.serve.Change.TheVariants.Nothing}
use Rattle.portmap_core.specs.declared.serve.Response.{Response}
use Rattle.portmap_core.proofs.Waits.{serves_spelled}
use Rattle.portmap_core.specs.declared.connection.Phase.TheVariants as phase

-- ---- a registration, by the status of its name

abbrev stands : Bool → Bool → Option ℕ → NameStatus
stands taken full last = if taken then how.Active else if full then how.NoRoom else how.Free last

-- ---- a request

module _ (cfg : Configuration) (names : Names) (local : Bool) (slot : ℕ) where
  -- The results of a request are the results of the body that spells it.
  all_spelled : {wanted : Option ℕ} {o : Served} (body : List ℕ) (request : Request) → Spells body request
      → IsOnlyResponse (Serves cfg names local slot request) wanted o → IsOnlyResponse (ServesBody cfg names local slot body) wanted o
  all_spelled body request spells all = record {
    response = inl (record { request = request; spells = spells; serves = all.response });
    only = λ other p. all.only other (serves_spelled cfg names local slot spells p);
  }

module _ {E : Type 0} (asked : RequestContext) where
  -- A response for a local peer is a response for this peer, which is local.
  pub near : (request : Request) (result : Result Response E) → asked.local ≡ true
      → RespondsAtAnySlot asked result (λ cfg names slot. Serves cfg names true slot request)
      → RespondsAtAnySlot asked result (λ cfg names slot. Serves cfg names asked.local slot request)
  near request result e h =
      subst (λ (l : Bool). RespondsAtAnySlot asked result (λ cfg names slot. Serves cfg names l slot request)) (sym e) h

-- A registration for which there is no room.
is_full : (taken full : Bool) (last : Option ℕ) → stands taken full last ≡ how.NoRoom → (taken ≡ false) × (full ≡ true)
is_full taken full last e = search rules

-- The response refuses a registration for lack of room.
pub record Refuses (asked : RequestContext) (g : Node) (response : Response) : Type 0 where
  pub stands : name_status asked.config.known_max g.name asked.table.now.names ≡ how.NoRoom
  pub text : response.reply.items ≡ alive_reply g.high 2 0
  pub fate : response.fate ≡ Close
  pub phase : response.phase ≡ phase.Done
  pub change : response.change ≡ Nothing

pub no_room : {asked : RequestContext} {g : Node} {response : Response} → Refuses asked g response → (bytes : List ℕ)
    → IsResponseAtAnySlot (λ slot. Serves asked.config asked.table.now.names true slot (Alive g)) asked bytes response
no_room {asked} {g} {response} r bytes =
    let cfg = asked.config in
    let names = asked.table.now.names in
    let full = is_full (is_active g.name names) (is_full_for cfg.known_max g.name names) (remembered g.name names) r.stands in
    let said : (slot : ℕ) → served_by cfg names slot bytes response ≡ replied names (alive_reply g.high 2 0) =
    λ slot i. record {
      reply = r.text i;
      fate = r.fate i;
      stage = stage_held (r.phase i) bytes;
      names = names_after cfg.known_max slot (r.change i) names;
      stopped = stopped_by (r.change i);
    } in
    let is : (slot creation : ℕ) → alive_served cfg names slot g creation ≡ replied names (alive_reply g.high 2 0) =
    λ slot creation. cond-false (is_active g.name names) _ _ full.0
    ∙ ap (λ (b : Bool). cond b (replied names (alive_reply g.high 2 0)) (registers cfg.known_max names slot g creation)) full.1 in
    record {
      all = search rules;
      may = subst (MayChange cfg.known_max names) (sym r.change) tt;
      chosen = subst (IsChosen cfg.port asked.table.now asked.wanted response.reply.items) (sym r.change) tt;
    }

-- A registration of a free name.
module _ (asked : RequestContext) (g : Node) {last : Option ℕ}
    (stands : name_status asked.config.known_max g.name asked.table.now.names ≡ how.Free last) where
  frees : (is_active g.name asked.table.now.names ≡ false) × (is_full_for asked.config.known_max g.name asked.table.now.names ≡ false)
      × (last ≡ remembered g.name asked.table.now.names)
  frees = search rules

  pub may_register : (creation : ℕ) → IsLegalCreation g.high last creation
      → MayRegister asked.config.known_max asked.table.now.names g creation
  may_register creation legal = search rules

  pub is_chosen : (counter creation : ℕ) → (asked.wanted ≡ None → creation ≡ choice counter g.high last) → asked.wanted ≡ None
      → creation ≡ choice counter g.high (remembered g.name asked.table.now.names)
  is_chosen counter creation chosen none = chosen none ∙ ap (choice counter g.high) frees.2

  pub all_free : (slot creation : ℕ) (reply : List ℕ) → IsLegalCreation g.high last creation
      → ((other : ℕ) → asked.wanted ≡ Some other → IsLegalCreation g.high last other → other ≡ creation)
      → reply ≡ alive_reply g.high 0 creation
      → IsOnlyResponse (Serves asked.config asked.table.now.names true slot (Alive g)) asked.wanted
      (record {
        reply = reply;
        fate = Stay;
        stage = Holding;
        names = registered g creation slot (with_room asked.config.known_max g.name asked.table.now.names);
        stopped = None;
      })
  all_free slot creation reply legal picked said = search (rules, frees)

-- ---- a body

pub responds_to_spelled : {E : Type 0} (asked : RequestContext) (body : List ℕ) (request : Request) (result : Result Response E)
    → Spells body request
    → RespondsAtAnySlot asked result (λ cfg names slot. Serves cfg names asked.local slot request)
    → RespondsAtAnySlot asked result (λ cfg names slot. ServesBody cfg names asked.local slot body)
responds_to_spelled asked body request result spells =
    let cfg = asked.config in
    let names = asked.table.now.names in
    IfOk-weaker result (λ response. (bytes : List ℕ)
    → IsResponseAtAnySlot (λ slot. Serves cfg names asked.local slot request) asked bytes response)
    (λ response. (bytes : List ℕ) → IsResponseAtAnySlot (λ slot. ServesBody cfg names asked.local slot body) asked bytes response)
    (λ response h bytes. record {
      all = λ slot. all_spelled cfg names asked.local slot body request spells ((h bytes).all slot);
      may = (h bytes).may;
      chosen = (h bytes).chosen;
    })

-- ---- all bytes received

pub responds_to_whole : {E : Type 0} (asked : RequestContext) (received body : List ℕ) (sight : Framing) (result : Result Response E)
    → Some body ≡ body_in sight
    → RespondsAtAnySlot asked result (λ cfg names slot. ServesBody cfg names asked.local slot body)
    → IfOk result (λ response. IsResponseAtAnySlot
    (λ slot. ServesReceived asked.config asked.table.now.names asked.local slot received sight) asked received response)
responds_to_whole asked received body More result is = absurd cc
responds_to_whole asked received body Zero result is = absurd cc
responds_to_whole asked received body (TooLarge n) result is = absurd cc
responds_to_whole asked received body (Whole whole) result is =
    let one : body ≡ whole = cc in
    let cfg = asked.config in
    let names = asked.table.now.names in
    IfOk-weaker result (λ response. (bytes : List ℕ)
    → IsResponseAtAnySlot (λ slot. ServesBody cfg names asked.local slot body) asked bytes response)
    (λ response. IsResponseAtAnySlot (λ slot. ServesReceived cfg names asked.local slot received (Whole whole)) asked received response)
    (λ response h. subst (λ (b : List ℕ). IsResponseAtAnySlot (λ slot. ServesBody cfg names asked.local slot b) asked received response) one
    (h received))

-- The bytes that a feed keeps have the results of all bytes.
module _ (cfg : Configuration) (names : Names) {near local : Bool} (alike : near ≡ local) (slot : ℕ) where
  pub all_kept : {wanted : Option ℕ} {o : Served} (feed all : List ℕ) → feed ≡ kept all
      → IsOnlyResponse (ServesReceived cfg names near slot feed (first_request feed)) wanted o
      → IsOnlyResponse (ServesReceived cfg names local slot all (first_request all)) wanted o
  all_kept {wanted} {o} feed all is response = search (rules, first_request-kept, kept_more)
