-- Replies about active names for any host, what is read back of them, and the silence to all other requests of remote peers.
use Rattle.std.specs.{List.flat_map, Prelude.{All, find, option_map, slice_get, map as list_map}}
use Rattle.std.proofs.Common.{◌≡◌, ℕ, suc, Bool, true, false, cond, List, [], ◌∷◌, ◌++◌, Option, Some, None, ap, ◌∙◌}
use Rattle.std.proofs.Common.{append_assoc, arith, rules}
use Rattle.std.proofs.lemmas.{List.Elements.{All-append, All-drop, All-map, All-nil, All-push, All-take}, Option.same_Some}
use Rattle.portmap_wire.specs.{List.names_line, ListReading.IsLine, Node.IsNode, Reply.{be4, port2_reply}}
use Rattle.portmap_wire.specs.{Request.Spells, declared.request.Request.{Request, TheVariants.Port}}
use Rattle.portmap_wire.proofs.LineLemmas.{names_read_back}
use Rattle.portmap_wire.specs.declared.request.Request.TheVariants as request
use Rattle.portmap_table.specs.Rows.{Names, registered, retired_at, retired_last, same_name, with_room}
use Rattle.portmap_table.specs.declared.row.Row.{Row}
use Rattle.portmap_table.proofs.NameLaws.{active_names_stay}
use Rattle.portmap_core.specs.{Config.Configuration, Entry.Entry}
use Rattle.portmap_core.specs.Laws.{ActiveNamesAreFound, ActiveNamesAreListed, Completes, ListsAreExact, ListsAreReadBack}
use Rattle.portmap_core.specs.Laws.{RemotePeersMayOnlyLookUp}
use Rattle.portmap_core.specs.{Run.Run, Serving.{Served, Serves, ServesBody, names_line_of, served}}
use Rattle.portmap_core.specs.{State.{State, empty_state}, Step.{Effect, Step, outcome_of}, declared.connection.Connection.Connection}
use Rattle.portmap_core.proofs.{NameSteps.names_lead, Waits.{WaitsAt, said, serves_spelled, settles_at}}

-- The result of a complete request.
pub serves_at : {cfg : Configuration} {s s' : State} {slot : ℕ} {connection : Connection} {body reply : List ℕ}
    (c : Completes cfg s slot connection body reply s') (request : Request) → Spells body request
    → (o : Served) × Serves cfg s.names connection.local slot request o × (said reply c.fate s' ≡ outcome_of s slot connection o)
serves_at {cfg} {s} {s'} {slot} {connection} {body} {reply} c request spells =
    let waits : WaitsAt = search rules in
    let settles = settles_at waits c.says in
    let whole : ServesBody cfg s.names connection.local slot body settles.served = search rules in
    (settles.served, serves_spelled cfg s.names connection.local slot spells whole, settles.outcome)

pub answered : {cfg : Configuration} {s s' : State} {slot : ℕ} {connection : Connection} {body reply : List ℕ}
    → Completes cfg s slot connection body reply s' → (request : Request) → Spells body request
    → (creation : ℕ) × (reply ≡ (served cfg s.names connection.local slot request creation).reply)
answered c request spells =
    let (o, serves, is) = serves_at c request spells in
    (serves.creation, ap (λ (x : Effect). x.reply) is ∙ ap (λ (x : Served). x.reply) serves.is)

pub active_names_are_found : ActiveNamesAreFound
active_names_are_found cfg s s' slot connection body reply name row c spells active =
    (answered c (Port name) spells).1
    ∙ ap (λ (o : Option Row). port2_reply (option_map (λ (x : Row). x.reg) o)) active

-- ---- lines

-- `part` is a part of `text`.
abbrev HasPart : List ℕ → List ℕ → Type 0
HasPart text part = (before : List ℕ) × (after : List ℕ) × (text ≡ before ++ part ++ after)

part_behind : (front text part : List ℕ) → HasPart text part → HasPart (front ++ text) part
part_behind front text part h = (front ++ h.0, h.1, ap (λ (t : List ℕ). front ++ t) h.2 ∙ simp append_assoc)

-- An element that is found in a list has its line in the text of the list.
has_line : {X L : Type 0} (p : X → Bool) (line : L → List ℕ) (f : X → L) (xs : List X) (x : X) → find p xs ≡ Some x
    → HasPart (flat_map line (list_map f xs)) (line (f x))
has_line p line f [] x e = absurd cc
has_line {X} p line f (y ∷ ys) x e = by (p y) e (λ later. has_line p line f ys x later)
  where
    by : (b : Bool) → cond b (Some y) (find p ys) ≡ Some x → (find p ys ≡ Some x → HasPart (flat_map line (list_map f ys)) (line (f x)))
        → HasPart (line (f y) ++ flat_map line (list_map f ys)) (line (f x))
    by true here rest = (
      [],
      flat_map line (list_map f ys),
      ap (λ (z : X). line (f z) ++ flat_map line (list_map f ys)) (same_Some y x here),
    )
    by false later rest = part_behind (line (f y)) (flat_map line (list_map f ys)) (line (f x)) (rest later)

pub active_names_are_listed : ActiveNamesAreListed
active_names_are_listed cfg s s' slot connection body reply name row c spells active =
    let lines : List ℕ = flat_map names_line (list_map names_line_of s.names.active) in
    let part = part_behind (be4 cfg.port) lines (names_line (names_line_of row))
    (has_line (λ (x : Row). same_name x.reg.name name) names_line names_line_of s.names.active row active) in
    (part.0, part.1, (answered c request.Names spells).1 ∙ part.2)

pub lists_are_exact : ListsAreExact
lists_are_exact cfg s s' slot connection body reply c spells = (answered c request.Names spells).1

-- ---- lists that are read back

abbrev IsShown : Row → Type 0
IsShown row = IsLine (names_line_of row)

-- Each active name can be written and read back.
record AreLines (names : Names) : Type 0 where
  each : All IsShown names.active

retired_last_lines : (names : Names) (at : ℕ) (o : Option Row) → AreLines names → AreLines (retired_last at o names)
retired_last_lines names at None lines = lines
retired_last_lines names at (Some row) lines = record {
  each = All-append IsShown _ _ (All-take IsShown at names.active lines.each) (All-drop IsShown (suc at) names.active lines.each);
}

retired_lines : (names : Names) (o : Option ℕ) → AreLines names → AreLines (retired_at o names)
retired_lines names None lines = lines
retired_lines names (Some at) lines = retired_last_lines names at (slice_get names.active at) lines

registered_lines : (known_max : ℕ) (names : Names) (row : Row) → IsNode row.reg → AreLines names
    → AreLines (registered row.reg row.creation row.slot (with_room known_max row.reg.name names))
registered_lines known_max names row is lines =
    let before = rw (← active_names_stay known_max names row.reg.name) at lines.each in
    record { each = All-push IsShown _ row before (record { name = is.name; port = is.port }) }

step_lines : (cfg : Configuration) (s s' : State) (e : Entry) → Step cfg s e s' → AreLines s.names → AreLines s'.names
step_lines cfg s s' e step lines = names_lead AreLines lines e step (λ slot _. retired_lines s.names _ lines)
    (λ r. registered_lines cfg.known_max s.names (record { reg = r.node; creation = r.creation; slot = r.replied.slot })
    r.replied.spells.request_is lines)

run_lines : (cfg : Configuration) (es : List Entry) (s s' : State) → Run cfg s es s' → AreLines s.names → AreLines s'.names
run_lines cfg [] s s' run lines = rw run lines
run_lines cfg (e ∷ es) s s' run lines = run_lines cfg es run.0 s' run.2 (step_lines cfg s run.0 e run.1 lines)

pub lists_are_read_back : ListsAreReadBack
lists_are_read_back cfg es s s' slot connection body reply is run c spells =
    let lines = run_lines cfg es empty_state s run (record { each = All-nil IsShown }) in
    rw (lists_are_exact cfg s s' slot connection body reply c spells) (names_read_back cfg.port (list_map names_line_of s.names.active)
    (omega (arith, is.port)) (All-map IsLine names_line_of s.names.active lines.each))

-- ---- remote peers

pub remote_peers_may_only_look_up : RemotePeersMayOnlyLookUp
remote_peers_may_only_look_up cfg s s' slot connection piece reply fate here far says = search rules
