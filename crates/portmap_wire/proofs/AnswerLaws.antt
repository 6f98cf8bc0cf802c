-- Replies that were written are read back.
use Rattle.std.specs.Prelude.{IfOk, IfSome}
use Rattle.std.proofs.Common.{◌≡◌, ℕ, suc, ◌+◌, ◌≤◌, Bool, true, false, cond, ltb, eqb, List, [], ◌∷◌, ◌++◌, length}
use Rattle.std.proofs.{Common.{Option, Some, None, Result, Ok, refl, subst, rules}, lemmas.Bool.{ltb-false, eqb-true}}
use Rattle.portmap_wire.specs.{Node.{Node, IsNode, fields}, ReplyReading.{registered_answer, with_name, port2_result}}
use Rattle.portmap_wire.specs.ReplyReading.{port2_answer, GivesReply, IsFound, LookUpsAreReadBack}
use Rattle.portmap_wire.specs.{RequestReading.{name_in, fields_in}, declared.name.NameFault.NameFault}
use Rattle.portmap_wire.specs.declared.reply_reading.ReplyFault.{ReplyFault}
use Rattle.portmap_wire.specs.{declared.reply_writing.TheConstants.PORT2_RESP, declared.request.TheConstants.BODY_MOST}
use Rattle.portmap_wire.proofs.{FieldLemmas.{fields_again, fields_take}, NameLemmas.IsBytes}
use Rattle.portmap_wire.proofs.RequestLaws.{guard_after, name_again, name_takes}
use Rattle.portmap_wire.specs.declared.reply_reading.ReplyFault.TheVariants as fault

pub look_ups : LookUpsAreReadBack
look_ups None more h = refl
look_ups (Some g) more is = search (rules, fields_again, name_again)

-- ---- the bytes spell what is found

coded : (b : Bool) (r : Result (Option Node) ReplyFault) (g : Node) → cond b r (Ok None) ≡ Ok (Some g) → (b ≡ true) × (r ≡ Ok (Some g))
coded b r g e = search rules

named_takes : (h g : Node) (read : Result (List ℕ) NameFault) → with_name h read ≡ Ok (Some g)
    → (n : List ℕ) × (read ≡ Ok n) × (ltb BODY_MOST (13 + length h.name + length h.extra) ≡ false) × (h ≡ g)
named_takes h g read e = search rules

registered_takes : (o : Option (Node × List ℕ)) (g : Node) → registered_answer o ≡ Ok (Some g)
    → (f : Node × List ℕ) × (o ≡ Some f) × (with_name f.0 (name_in f.0.name) ≡ Ok (Some g))
registered_takes o g e = search rules

Behind : List ℕ → Node → Type 0
Behind rest g = IsNode g × ((more : List ℕ) × (rest ≡ fields g ++ more))

fields_behind : (rest : List ℕ) (g : Node) → IsBytes rest → registered_answer (fields_in rest) ≡ Ok (Some g) → Behind rest g
unfolding Behind
fields_behind rest g fits e =
    let w = registered_takes (fields_in rest) g e in
    let h = w.0.0 in
    let t = fields_take rest h w.0.1 fits w.1 in
    let m = named_takes h g (name_in h.name) w.2 in
    let short : 13 + length h.name + length h.extra ≤ BODY_MOST = ltb-false _ _ m.2 in
    let is : IsNode h = search (rules, name_takes) in
    subst (λ (x : Node). IsNode x × ((more : List ℕ) × (rest ≡ fields x ++ more))) m.3 (is, (w.0.1, t.text))

pub look_up_takes : (q : List ℕ) (g : Node) → IsBytes q → port2_answer q ≡ Ok (Some g) → IsFound q g
unfolding Behind
look_up_takes [] g fits e = absurd cc
look_up_takes (tag ∷ []) g fits e = search rules
look_up_takes (tag ∷ code ∷ rest) g fits e =
    let a = guard_after (eqb tag PORT2_RESP) (fault.BadTag tag) (port2_result (code ∷ rest)) (Some g) e in
    let b = coded (eqb code 0) (registered_answer (fields_in rest)) g a.1 in
    let f = fields_behind rest g (λ i. fits (suc (suc i))) b.1 in
    record {
      registration = f.0;
      more = f.1.0;
      text = (λ i. eqb-true _ _ a.0 i ∷ eqb-true _ _ b.0 i ∷ f.1.1 i);
    }

pub look_up_found : (q : List ℕ) (answer : Result (Option Node) ReplyFault) → IsBytes q → GivesReply answer (port2_answer q)
    → IfOk answer (λ found. IfSome found (λ g. IsFound q g))
look_up_found q answer fits h = search (rules, look_up_takes)
