-- Lemmas: the properties of a call, from those of its parts.
use Rattle.std.specs.{Io.KnownBytes.{Appends, Keeps}, Prelude.{Result, IsErrAnd, IfErr, MatchResult}}
use Rattle.std.proofs.Common.{◌≡◌, ◌≢◌, ℕ, ◌+◌, true, List, length, Option, Ok, Err, sym, subst, arith, rules}
use Rattle.std.proofs.{KnownBytes.Appends-kept, lemmas.Bool.false≢true, lemmas.List.take_all}
use Rattle.portmap_client.specs.Exchange.{Answers, Exchanges, StreamView, Writes, WritesAt, WritesPrefix}
use Rattle.portmap_client.specs.{Exchange.is_device_fault, Fault.{split, client_result, client_fault}}
use Rattle.portmap_client.specs.{Laters.{laters, Waits, WaitsAt}, declared.exchange.Awaited.Awaited}
use Rattle.portmap_client.specs.{declared.fault.AnswerFault.AnswerFault, declared.fault.ClientFault.ClientFault}
use Rattle.portmap_client.specs.declared.fault.Aborted.{Aborted, TheVariants.{NoMemory, Write}}

-- ---- the parts of an exchange

whole_prefix : (bytes : List ℕ) (old new : Option (List ℕ)) → Appends old new bytes → WritesPrefix bytes old new
whole_prefix bytes old new whole = record {
  count = length bytes;
  writes = subst (λ (t : List ℕ). Appends old new t) (sym (take_all (length bytes) bytes (omega arith))) whole;
}

-- A call that does not fail with `Write` has written all bytes.
writes_all : {X : Type 0} (bytes : List ℕ) (old new : Option (List ℕ)) (result : Result X Aborted) → result ≢ Err Write
    → Appends old new bytes → Writes bytes old new result
writes_all bytes old new result reads whole = search (rules, whole_prefix)

never_write : {X : Type 0} (P : Type 0) (result : Result X Aborted) → result ≢ Err Write → IfErr result (λ f. f ≡ Write → P)
never_write o result reads = search rules

-- Earlier `Later` results count.
waits_longer : {X : Type 0} (old mid new met : ℕ) (result : Result X Aborted) → mid ≡ old + met → Waits mid (met + new) result
    → Waits old new result
waits_longer old mid new met result before waits = search rules

no_write : NoMemory ≡ Write → ⊥
no_write e = cc

-- The request was not written completely, so nothing was pulled.
pub not_asked : {X : Type 0} (bytes : List ℕ) (awaited : Awaited) (Says : List ℕ → X → Type 0) (old new : StreamView) (f : Aborted)
    (result : Result X Aborted) → IsErrAnd result (λ e. e ≡ f)
    → WritesAt bytes old.held new.held f → WaitsAt (laters old.pulls old.puts) (laters new.pulls new.puts) f
    → (is_device_fault f ≡ true → new.broken ≡ true) → Keeps old.left new.left → new.pulls ≡ old.pulls
    → Exchanges bytes awaited Says old new result
not_asked bytes awaited o old new f result failed asked waits broken keeps unread = search rules

-- The request was written completely, and the reply was read as far as the result says.
pub heard : {X : Type 0} (bytes : List ℕ) (awaited : Awaited) (Says : List ℕ → X → Type 0) (old mid new : StreamView) (met : ℕ)
    (result : Result X Aborted) → Appends old.held mid.held bytes → Keeps mid.held new.held
    → result ≢ Err Write → Keeps old.left mid.left → mid.pulls ≡ old.pulls
    → Answers awaited Says mid.left new.left mid.pulls new.pulls result
    → laters mid.pulls mid.puts ≡ laters old.pulls old.puts + met
    → Waits (laters mid.pulls mid.puts) (met + laters new.pulls new.puts) result
    → IfErr result (λ f. is_device_fault f ≡ true → new.broken ≡ true)
    → Exchanges bytes awaited Says old new result
heard bytes awaited Says old mid new met result wrote held reads left pulls answered before waits broken = record {
  asked = writes_all bytes old.held new.held result reads (Appends-kept old.held mid.held new.held bytes wrote held);
  unread = never_write (new.pulls ≡ old.pulls) result reads;
  answered = search rules;
  waits = waits_longer (laters old.pulls old.puts) (laters mid.pulls mid.puts) (laters new.pulls new.puts) met result before waits;
  broken = broken;
}

-- ---- a call from an exchange

told_from : {X : Type 0} (result : Result X ClientFault) (s : Result AnswerFault Aborted) → IsErrAnd result (λ e. split e ≡ s)
    → client_fault s ≡ client_result result
told_from result s failed = search rules

-- The exchange was aborted.
pub gave_up : {X Y : Type 0} {bytes sent : List ℕ} {awaited : Awaited} {SaysX : List ℕ → X → Type 0}
    {Says : List ℕ → Result Y AnswerFault → Type 0} {old new : StreamView} {f : Aborted} (result : Result Y ClientFault)
    → bytes ≡ sent → Exchanges bytes awaited SaysX old new (Err f) → IsErrAnd result (λ e. split e ≡ Err f)
    → Exchanges sent awaited Says old new (client_result result)
gave_up {X} {Y} {bytes} {sent} {awaited} {SaysX} {Says} {old} {new} {f} result same exchange failed = search rules

-- The bytes of the reply have this meaning, or memory ran out.
pub says : {X Y : Type 0} {bytes sent : List ℕ} {awaited : Awaited} {SaysX : List ℕ → X → Type 0} {Says : List ℕ → Y → Type 0}
    {old new : StreamView} {x : X} (y : Result Y Aborted)
    → bytes ≡ sent → Exchanges bytes awaited SaysX old new (Ok x)
    → ((read : List ℕ) → SaysX read x → MatchResult y (Says read) (λ f. f ≡ NoMemory)) → Exchanges sent awaited Says old new y
says {X} {Y} {bytes} {sent} {awaited} {SaysX} {Says} {old} {new} {x} (Ok y) same exchange tells = search rules
says {X} {Y} {bytes} {sent} {awaited} {SaysX} {Says} {old} {new} {x} (Err f) same exchange tells =
    let memory : NoMemory ≡ f = sym (tells exchange.answered.read exchange.answered.says) in
    let forgot : Exchanges bytes awaited Says old new (Err NoMemory) = record {
      asked = whole_prefix bytes old.held new.held exchange.asked;
      unread = λ e. absurd (no_write e);
      answered = record {
        read = exchange.answered.read;
        has_read = exchange.answered.has_read;
        ended = λ ok. absurd (false≢true ok);
        says = tt;
      };
      waits = exchange.waits;
      broken = λ fails. absurd (false≢true fails);
    } in
    subst (λ (bs : List ℕ). Exchanges bs awaited Says old new (Err f)) same
    (subst (λ (g : Aborted). Exchanges bytes awaited Says old new (Err g)) memory forgot)

-- The reply has a fault, or memory ran out.
pub says_fault : {X Y : Type 0} {bytes sent : List ℕ} {awaited : Awaited} {SaysX : List ℕ → X → Type 0}
    {Says : List ℕ → Result Y AnswerFault → Type 0} {old new : StreamView} {x : X} (s : Result AnswerFault Aborted)
    (result : Result Y ClientFault)
    → bytes ≡ sent → Exchanges bytes awaited SaysX old new (Ok x) → IsErrAnd result (λ e. split e ≡ s)
    → ((read : List ℕ) → SaysX read x → MatchResult s (λ f. Says read (Err f)) (λ f. f ≡ NoMemory))
    → Exchanges sent awaited Says old new (client_result result)
says_fault {Says = Says} (Ok f) result same exchange failed tells = search rules
says_fault {Says = Says} (Err f) result same exchange failed tells =
    subst (Exchanges _ _ Says _ _) (told_from result (Err f) failed) (says (Err f) same exchange tells)
