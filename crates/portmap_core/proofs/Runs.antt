-- Names after a run and after a malformed request, and the framing of a written request.
use Rattle.std.specs.Prelude.{◌==◌}
use Rattle.std.proofs.Common.{◌≡◌, ℕ, ◌+◌, ◌<◌, ◌≤◌, Bool, true, List, [], ◌∷◌, ◌++◌, length, Option, Some, refl, sym}
use Rattle.std.proofs.{Common.{subst, arith, length-append, rules}, Math.Seq.take-append_seam}
use Rattle.std.proofs.lemmas.Map.Keys.{apart_from_distinct}
use Rattle.std.specs.FinMap as map
use Rattle.portmap_wire.specs.{Node.{Node, fields, be2}, Request.{body_of, IsRequest}, declared.request.Request.Request}
use Rattle.portmap_wire.specs.declared.request.TheConstants.{BODY_MOST}
use Rattle.portmap_feed.specs.Stream.{Whole, first_request, sight_behind}
use Rattle.portmap_table.specs.Rows.{owns_name, known_names, same_name}
use Rattle.portmap_table.proofs.Owners.{owner_owns}
use Rattle.portmap_core.specs.{Config.Configuration, Entry.Entry, Laws.{WrittenIsWhole, NamesBelong}}
use Rattle.portmap_core.specs.Laws.{NamesBelongToConnections, owners, IncompleteRequestsWait, MalformedChangesNoName}
use Rattle.portmap_core.specs.{Owned.{IsSlotFor, IsOwned}, Run.Run, State.State, Step.Step}
use Rattle.portmap_core.specs.{declared.connection.Connection.Connection, declared.connection.Stage.TheVariants.Holding}
use Rattle.portmap_core.proofs.Owned.{owned_empty, steps_keep}

-- ---- names after a run

module _ (cfg : Configuration) where
  -- Two runs join into one run.
  pub runs_join : (es fs : List Entry) (s mid s' : State) → Run cfg s es mid → Run cfg mid fs s' → Run cfg s (es ++ fs) s'
  runs_join [] fs s mid s' run more = subst (λ (x : State). Run cfg x fs s') run more
  runs_join (e ∷ es) fs s mid s' run more = (run.0, run.1, runs_join es fs run.0 mid s' run.2 more)

  -- A run with one more transition is a run.
  pub run_more : (es : List Entry) (e : Entry) (s mid s' : State) → Run cfg s es mid → Step cfg mid e s' → Run cfg s (es ++ e ∷ []) s'
  run_more es e s mid s' run step = runs_join es (e ∷ []) s mid s' run (s', step, refl)

pub run_owned : (cfg : Configuration) (es : List Entry) (s s' : State) → IsOwned cfg s → Run cfg s es s' → IsOwned cfg s'
run_owned cfg [] s s' owned run = subst (λ (x : State). IsOwned cfg x) (sym run) owned
run_owned cfg (e ∷ es) s s' owned run = run_owned cfg es run.0 s' (steps_keep cfg s run.0 e owned run.1) run.2

holder : (b : Bool) (o : Option Connection) → b ≡ true → IsSlotFor b o
    → (connection : Connection) × (o ≡ Some connection) × (connection.stage ≡ Holding) × (connection.local ≡ true)
holder b o e h = search rules

belongs : (cfg : Configuration) (s : State) → IsOwned cfg s → NamesBelong s
belongs cfg s owned = record {
  held = λ name row found. holder (owns_name row.slot s.names) (map.get s.connections row.slot) (owner_owns name s.names row found)
      (owned.slots row.slot);
  once = λ i j d below within. apart_from_distinct same_name (known_names s.names) i j d owned.names.distinct below within;
  alone = λ i j d below within. apart_from_distinct ◌==◌ (owners s.names) i j d owned.names.owners below within;
}

pub names_belong : NamesBelongToConnections
names_belong cfg es s is run = belongs cfg s (run_owned cfg es _ s (owned_empty cfg) run)

-- ---- names after a malformed request

pub malformed_keeps : MalformedChangesNoName
malformed_keeps cfg s s' slot connection received piece reply fate here stage bad says = search rules

pub incomplete_wait : IncompleteRequestsWait
incomplete_wait cfg s s' slot connection received piece reply fate here stage more says = search rules

-- ---- written requests

length-fields : (g : Node) → length (fields g) ≡ 12 + length g.name + length g.extra
length-fields g = omega (arith, length-append (g.name ++ be2 (length g.extra)) g.extra, length-append g.name (be2 (length g.extra)))

body_len : (r : Request) → IsRequest r → (0 < length (body_of r)) × (length (body_of r) ≤ BODY_MOST)
body_len r is = search (rules, length-fields)

-- The framing of a body after its length.
whole_behind : (body more : List ℕ) (n : ℕ) → n ≡ length body → 0 < length body → length body ≤ BODY_MOST
    → sight_behind n (body ++ more) ≡ Whole body
whole_behind body more n e some small = search (rules, length-append, take-append_seam)

seen_whole : (body more : List ℕ) → 0 < length body → length body ≤ BODY_MOST
    → first_request (be2 (length body) ++ body ++ more) ≡ Whole body
unfolding first_request
seen_whole body more some small = search (rules, whole_behind)

pub written_whole : WrittenIsWhole
written_whole request more is = search (rules, body_len, seen_whole)
