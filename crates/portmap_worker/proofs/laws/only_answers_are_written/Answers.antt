use Rattle.std.proofs.Common.{◌≡◌, ◌≢◌, ℕ, List, [], ◌∷◌, ◌++◌, true, Option, Some, None, refl, sym, ap, subst, ◌∙◌}
use Rattle.std.proofs.Common.{◌⊎◌, inl, inr, append_assoc, append-nil}
use Rattle.std.proofs.{KnownBytes.{Appends-nil, Keeps-refl}, lemmas.Bool.{false≢true}}
use Rattle.std.proofs.lemmas.List.Elements.{All-nil, All-cons, All-head, All-tail}
use Rattle.portmap_core.specs.declared.event.Answer.{Answer}
use Rattle.portmap_link.specs.Flush.{Moves}
use Rattle.portmap_worker.specs.declared.carrier.Next.{Next, TheVariants.{NoMemory}}
use Rattle.portmap_worker.specs.Replies.{AreWritten, Carried, ClosesAreFinal, Does, Returned, Runs, replies, reply_of}
use Rattle.portmap_worker.proofs.Carrying.{moves_more}
use Rattle.portmap_worker.proofs.laws.only_answers_are_written.Goals as goal

abbrev Sends : List ℕ → Carried → Carried → Type 0
Sends text old new = Moves old.link.held new.link.held (old.out ++ text) new.out

-- A call appends its reply to the waiting bytes, or nothing if memory ran out.
one : (slot : ℕ) (acted : Option (ℕ × Answer)) (next : Next) (old new : Carried) → Does slot acted next old new
    → ((next ≡ NoMemory) × Sends [] old new) ⊎ Sends (reply_of acted) old new
one slot None next old new did =
    inr (subst (λ (text : List ℕ). Moves old.link.held new.link.held text new.out) (sym (append-nil old.out)) did.writes)
one slot (Some acted) NoMemory old new did = inl (refl, did.writes)
one slot (Some acted) next old new did = inr did.writes

-- The calls after the first call are added.
more : (call : Returned) (calls : List Returned) (old mid new : Carried) → Sends (reply_of call.0) old mid → AreWritten calls mid new
    → AreWritten (call ∷ calls) old new
more call calls old mid new sent rest = record {
  lost = rest.lost;
  writes = subst (λ (text : List ℕ). Moves old.link.held new.link.held text (new.out ++ rest.lost))
      (append_assoc old.out (reply_of call.0) (replies calls))
      (moves_more old.link.held mid.link.held mid.link.held new.link.held (old.out ++ reply_of call.0) mid.out (replies calls)
      (new.out ++ rest.lost) sent (Keeps-refl mid.link.held) rest.writes);
  all = λ kept. rest.all (All-tail (λ other. other.1 ≢ NoMemory) call calls kept);
}

-- Memory ran out at the last call, and its reply is lost.
last : (call : Returned) (old new : Carried) → call.1 ≡ NoMemory → Sends [] old new → AreWritten (call ∷ []) old new
last call old new short sent = record {
  lost = replies (call ∷ []);
  writes = (
    sent.0,
    sent.1,
    sym (append_assoc sent.0 new.out (replies (call ∷ [])))
        ∙ ap (λ (text : List ℕ). text ++ replies (call ∷ [])) (sent.2 ∙ append-nil old.out),
  );
  all = λ kept. absurd (All-head (λ other. other.1 ≢ NoMemory) call [] kept short);
}

module _ (slot : ℕ) (call : Returned) (calls : List Returned) (old mid new : Carried) where
  joined : ((call.1 ≡ NoMemory) × Sends [] old mid) ⊎ Sends (reply_of call.0) old mid → (call.1 ≡ NoMemory → calls ≡ [])
      → Runs slot calls mid new → AreWritten calls mid new → AreWritten (call ∷ calls) old new
  joined (inr sent) ends runs rest = more call calls old mid new sent rest
  joined (inl lost) ends runs rest =
      let over = ends lost.0 in
      subst (λ (others : List Returned). AreWritten (call ∷ others) old new) (sym over)
      (subst (λ (c : Carried). AreWritten (call ∷ []) old c)
      (sym (subst (λ (others : List Returned). Runs slot others mid new) over runs)) (last call old mid lost.0 lost.1))

written : (slot : ℕ) (calls : List Returned) (old new : Carried) → Runs slot calls old new → AreWritten calls old new
written slot [] old new same = record {
  lost = [];
  writes = subst (λ (c : Carried). Moves old.link.held c.link.held (old.out ++ []) (c.out ++ [])) (sym same)
      ([], Appends-nil old.link.held, refl);
  all = λ kept. refl;
}
written slot (call ∷ calls) old new runs =
    joined slot call calls old runs.0 new (one slot call.0 call.1 old runs.0 runs.1) runs.2 runs.3 (written slot calls runs.0 new runs.3)

-- A close that is due stays due, and the desk answers nothing.
quiet : (slot : ℕ) (acted : Option (ℕ × Answer)) (next : Next) (old new : Carried) → Does slot acted next old new → old.due ≡ true
    → (acted ≡ None) × (new.due ≡ true)
quiet slot None next old new did due = (refl, did.due ∙ due)
quiet slot (Some acted) next old new did due = absurd (false≢true (sym did.not_due ∙ due))

closes : ClosesAreFinal
closes slot [] old new runs due = All-nil (λ call. call.0 ≡ None)
closes slot (call ∷ calls) old new runs due =
    let one = quiet slot call.0 call.1 old runs.0 runs.1 due in
    All-cons (λ other. other.0 ≡ None) call calls one.0 (closes slot calls runs.0 new runs.3 one.1)

pub returns-clause-written : goal.returns-clause-written
returns-clause-written c = written

pub returns-clause-closes : goal.returns-clause-closes
returns-clause-closes c = closes
