-- A body that is read as a request spells it, and a body that spells a request is read as it.
use Rattle.std.specs.Prelude.{IfOk, IfErr, ◌≢◌, position}
use Rattle.std.proofs.Common.{◌≡◌, ◌⊎◌, ℕ, suc, ◌+◌, ◌≤◌, Bool, true, false, cond, ltb, eqb, List, [], ◌∷◌, ◌++◌}
use Rattle.std.proofs.Common.{length, Option, Some, None, Result, Ok, Err, refl, sym, ap, subst, ◌∙◌, arith, inl, inr}
use Rattle.std.proofs.{Common.rules, lemmas.Bool.{ltb-false, le-ltb, eqb-true}, lemmas.Grind.common_steps}
use Rattle.std.proofs.lemmas.List.{append-nil, length-append}
use Rattle.portmap_wire.specs.{Name.{is_control, IsName}, Node.{Node, IsNode, fields, be2}}
use Rattle.portmap_wire.specs.Request.{body_of, IsRequest, Spells, IsMalformed, SpellsOneRequest}
use Rattle.portmap_wire.specs.RequestReading.{unless_found, name_in, fields_in, named, alone, with_name, filled}
use Rattle.portmap_wire.specs.{RequestReading.{alive_in, by_tag, request_in, Gives}, declared.name.NameFault.NameFault}
use Rattle.portmap_wire.specs.declared.request.Malformed.{Malformed}
use Rattle.portmap_wire.specs.declared.request.Request.{Request, TheVariants.{Alive, Dump, Kill, Names, Port, Stop}}
use Rattle.portmap_wire.specs.declared.request.TheConstants.{BODY_MOST, ALIVE2_REQ, PORT_PLEASE2_REQ, NAMES_REQ}
use Rattle.portmap_wire.specs.declared.request.TheConstants.{DUMP_REQ, KILL_REQ, STOP_REQ}
use Rattle.portmap_wire.proofs.FieldLemmas.{FitsFields, fields_take, fields_again}
use Rattle.portmap_wire.proofs.NameLemmas.{IsBytes, is_name, no_control}
use Rattle.portmap_wire.specs.declared.request.Malformed.TheVariants as malformed

-- A test went the way that does not fail.
pub guard : {A E : Type 0} (b : Bool) (d : E) (r : Result A E) (y : A) → cond b (Err d) r ≡ Ok y → (b ≡ false) × (r ≡ Ok y)
guard b d r y e = search rules

pub guard_after : {A E : Type 0} (b : Bool) (d : E) (r : Result A E) (y : A) → cond b r (Err d) ≡ Ok y → (b ≡ true) × (r ≡ Ok y)
guard_after b d r y e = search rules

-- The two cases of a test.
chosen : {A : Type 0} (b : Bool) (x y z : A) → cond b x y ≡ z → ((b ≡ true) × (x ≡ z)) ⊎ ((b ≡ false) × (y ≡ z))
chosen b x y z e = search rules

-- ---- names

pub name_takes : (bytes n : List ℕ) → IsBytes bytes → name_in bytes ≡ Ok n → (bytes ≡ n) × IsName bytes
name_takes bytes n fits e = search (rules, is_name)

unscanned : (bytes : List ℕ) (o : Option ℕ) → o ≡ position is_control bytes → IsName bytes → unless_found o bytes ≡ Ok bytes
unscanned bytes o e name = search (rules, no_control)

pub name_again : (bytes : List ℕ) → IsName bytes → name_in bytes ≡ Ok bytes
name_again bytes name = search (rules, unscanned)

-- ---- requests

IsBytes-rest : (b : ℕ) (bytes : List ℕ) → IsBytes (b ∷ bytes) → IsBytes bytes
IsBytes-rest b bytes h i = h (suc i)

with_name_takes : (g : Node) (read : Result (List ℕ) NameFault) (r : Request) → with_name g read ≡ Ok r
    → (n : List ℕ) × (read ≡ Ok n) × (Alive g ≡ r)
with_name_takes g read r e = search rules

filled_takes : (o : Option (Node × List ℕ)) (r : Request) → filled o ≡ Ok r
    → (f : Node × List ℕ) × (o ≡ Some f) × (f.1 ≡ []) × (with_name f.0 (name_in f.0.name) ≡ Ok r)
filled_takes None r e = absurd cc
filled_takes (Some f) r e = grind (arith, common_steps)

length-fields : (g : Node) → length (fields g) ≡ 12 + length g.name + length g.extra
length-fields g = omega (arith, length-append (g.name ++ be2 (length g.extra)) g.extra, length-append g.name (be2 (length g.extra)))

pub alive_takes : (rest : List ℕ) (r : Request) → IsBytes rest → alive_in rest ≡ Ok r → Spells (ALIVE2_REQ ∷ rest) r
unfolding alive_in
alive_takes rest r fits e =
    let a = guard (ltb (length rest) 12) malformed.Short _ r e in
    let b = guard (ltb BODY_MOST (1 + length rest)) malformed.LengthsDisagree _ r a.1 in
    let w = filled_takes (fields_in rest) r b.1 in
    let g = w.0.0 in
    let t = fields_take rest g w.0.1 fits w.1 in
    let text : rest ≡ fields g = t.text ∙ ap (λ (z : List ℕ). fields g ++ z) w.2 ∙ append-nil (fields g) in
    let m = with_name_takes g (name_in g.name) r w.3 in
    let short : 1 + length rest ≤ BODY_MOST = ltb-false _ _ b.0 in
    let is : IsNode g = search (rules, length-fields, name_takes) in
    let all : Spells (ALIVE2_REQ ∷ rest) (Alive g) = record { request_is = is; text = ap (λ (z : List ℕ). ALIVE2_REQ ∷ z) text } in
    subst (λ (x : Request). Spells (ALIVE2_REQ ∷ rest) x) m.2 all

port_takes : (rest : List ℕ) (r : Request) → IsBytes rest → named (λ n. Port n) (name_in rest) ≡ Ok r → Spells (PORT_PLEASE2_REQ ∷ rest) r
port_takes rest r fits e = search (rules, name_takes)

stop_takes : (rest : List ℕ) (r : Request) → IsBytes rest → named (λ n. Stop n) (name_in rest) ≡ Ok r → Spells (STOP_REQ ∷ rest) r
stop_takes rest r fits e = search (rules, name_takes)

one_takes : (tag : ℕ) (only r : Request) (rest : List ℕ) → IsRequest only → tag ∷ [] ≡ body_of only → alone only rest ≡ Ok r
    → Spells (tag ∷ rest) r
one_takes tag only r rest is text e = search rules

pub request_takes : (body : List ℕ) (r : Request) → IsBytes body → request_in body ≡ Ok r → Spells body r
unfolding by_tag
request_takes [] r fits e = absurd cc
request_takes (tag ∷ rest) r fits e =
    let P : ℕ → Type 0 = λ t. Spells (t ∷ rest) r in
    let in_rest = IsBytes-rest tag rest fits in
    elim (chosen (eqb tag ALIVE2_REQ) (alive_in rest) _ (Ok r) e) [
      | inl p ↦ subst P (sym (eqb-true _ _ p.0)) (alive_takes rest r in_rest p.1)
      | inr a ↦ elim (chosen (eqb tag PORT_PLEASE2_REQ) (named (λ n. Port n) (name_in rest)) _ (Ok r) a.1) [
        | inl p ↦ subst P (sym (eqb-true _ _ p.0)) (port_takes rest r in_rest p.1)
        | inr b ↦ elim (chosen (eqb tag NAMES_REQ) (alone Names rest) _ (Ok r) b.1) [
          | inl p ↦ subst P (sym (eqb-true _ _ p.0)) (one_takes NAMES_REQ Names r rest tt refl p.1)
          | inr d ↦ elim (chosen (eqb tag DUMP_REQ) (alone Dump rest) _ (Ok r) d.1) [
            | inl p ↦ subst P (sym (eqb-true _ _ p.0)) (one_takes DUMP_REQ Dump r rest tt refl p.1)
            | inr f ↦ elim (chosen (eqb tag KILL_REQ) (alone Kill rest) _ (Ok r) f.1) [
              | inl p ↦ subst P (sym (eqb-true _ _ p.0)) (one_takes KILL_REQ Kill r rest tt refl p.1)
              | inr g ↦ elim (chosen (eqb tag STOP_REQ) (named (λ n. Stop n) (name_in rest)) _ (Ok r) g.1) [
                | inl p ↦ subst P (sym (eqb-true _ _ p.0)) (stop_takes rest r in_rest p.1)
                | inr h ↦ let last : ◌≡◌ {A = Result Request Malformed} (Err malformed.UnknownTag) (Ok r) = h.1 in absurd cc
              ]
            ]
          ]
        ]
      ]
    ]

alive_again : (g : Node) → IsNode g → alive_in (fields g) ≡ Ok (Alive g)
unfolding alive_in
alive_again g is =
    let len = length-fields g in
    let total : 13 + length g.name + length g.extra ≤ BODY_MOST = is.fits in
    let fits : FitsFields g = record { port = is.port; kind = is.kind; proto = is.proto; high = is.high; low = is.low } in
    let read : fields_in (fields g) ≡ Some (g, []) = ap fields_in (sym (append-nil (fields g)))
    ∙ fields_again g [] fits (omega arith) (omega arith) in
    let t1 : ltb (length (fields g)) 12 ≡ false = le-ltb _ _ (omega arith) in
    let t2 : ltb BODY_MOST (1 + length (fields g)) ≡ false = le-ltb _ _ (omega arith) in
    ap (λ (b : Bool). cond b (Err malformed.Short)
    (cond (ltb BODY_MOST (1 + length (fields g))) (Err malformed.LengthsDisagree) (filled (fields_in (fields g))))) t1
    ∙ (ap (λ (b : Bool). cond b (Err malformed.LengthsDisagree) (filled (fields_in (fields g)))) t2
    ∙ (ap filled read ∙ ap (with_name g) (name_again g.name is.name)))

pub request_again : (r : Request) → IsRequest r → request_in (body_of r) ≡ Ok r
unfolding by_tag
request_again (Alive g) is = alive_again g is
request_again (Port n) is = rw (name_again n is) refl
request_again Names is = refl
request_again Dump is = refl
request_again Kill is = refl
request_again (Stop n) is = rw (name_again n is) refl

-- ---- the reader's result for each reading of the bytes

pub found : (body : List ℕ) (answer : Result Request Malformed) → IsBytes body → Gives answer (request_in body)
    → IfOk answer (λ r. Spells body r)
found body answer fits h = search (rules, request_takes)

-- A body that spells a request is read as that request.
spelled_is_read : (body : List ℕ) (r : Request) → Spells body r → request_in body ≡ Ok r
spelled_is_read body r spells = ap request_in spells.text ∙ request_again r spells.request_is

pub refused : (body : List ℕ) (answer : Result Request Malformed) → Gives answer (request_in body)
    → IfErr answer (λ fault. fault ≢ malformed.NoMemory → IsMalformed body)
refused body (Ok r) h = tt
refused body (Err malformed.NoMemory) h = λ other. absurd (other refl)
refused body (Err malformed.Short) h = λ other r spells. let both = sym h ∙ spelled_is_read body r spells in absurd cc
refused body (Err malformed.UnknownTag) h = λ other r spells. let both = sym h ∙ spelled_is_read body r spells in absurd cc
refused body (Err malformed.LengthsDisagree) h = λ other r spells. let both = sym h ∙ spelled_is_read body r spells in absurd cc
refused body (Err (malformed.Name fault)) h = λ other r spells. let both = sym h ∙ spelled_is_read body r spells in absurd cc

pub one_request : SpellsOneRequest
one_request body a b p q = let both : ◌≡◌ {A = Result Request Malformed} (Ok a) (Ok b) = sym (spelled_is_read body a p)
    ∙ spelled_is_read body b q in cc
