-- Lemmas: a reply is read chunk by chunk, and no further than its end.
use Rattle.std.specs.{Io.KnownBytes.Consumes, Prelude.{◌⊎◌, Result, IsErr}}
use Rattle.std.proofs.Common.{◌≡◌, ℕ, ◌+◌, ◌-◌, ◌<◌, ◌≤◌, List, [], ◌++◌, length, take, Option, sym, subst, arith, inl}
use Rattle.std.proofs.{Common.{inr, rules}, KnownBytes.Consumes-trans, Math.Seq.take-append-add, lemmas.Bool.cases_lt}
use Rattle.std.proofs.lemmas.List.{length-append, length-take, take-append-le}
use Rattle.portmap_link.specs.declared.device.Pull.{Pull}
use Rattle.portmap_client.specs.{Exchange.{Answers, HasRead, IsUnfinished}, declared.exchange.Awaited.Awaited}
use Rattle.portmap_client.specs.declared.fault.Aborted.{Aborted}

-- A proper prefix of the bytes read and one more chunk is incomplete.
front_unfinished : (awaited : Awaited) (read piece : List ℕ) (most n : ℕ)
    → ((k : ℕ) → k < length read → IsUnfinished awaited (take k read)) → length piece ≤ most
    → ((more : List ℕ) → length more < most → IsUnfinished awaited (read ++ more)) → n < length (read ++ piece)
    → (n < length read) ⊎ (length read ≤ n) → IsUnfinished awaited (take n (read ++ piece))
front_unfinished awaited read piece most n before small missing within (inl less) = search (rules, take-append-le)
front_unfinished awaited read piece most n before small missing within (inr more) =
    let k : ℕ = n - length read in
    let at : length read + k ≡ n = omega (arith, more) in
    let part : length (take k piece) < most = omega (arith, length-take k piece, length-append read piece, within, small, more) in
    subst (λ (m : ℕ). IsUnfinished awaited (take m (read ++ piece))) at
    (subst (IsUnfinished awaited) (sym (take-append-add read piece k)) (missing (take k piece) part))

-- One more chunk was read, with at most as many bytes as the reply still needs.
reads_on : (awaited : Awaited) (a b c : Option (List ℕ)) (read piece : List ℕ) (most : ℕ) → HasRead awaited a b read → Consumes b c piece
    → length piece ≤ most
    → ((more : List ℕ) → length more < most → IsUnfinished awaited (read ++ more)) → HasRead awaited a c (read ++ piece)
reads_on awaited a b c read piece most so_far one small missing = record {
  reads = Consumes-trans a b c read piece so_far.reads one;
  no_further = λ n within. front_unfinished awaited read piece most n so_far.no_further small missing within (cases_lt n (length read));
}

-- The chunk is the beginning of a buffer, which has at most as many bytes as the reply still needs.
pub reads_front : (awaited : Awaited) (a b c : Option (List ℕ)) (read bytes buffer : List ℕ) (count most : ℕ) → HasRead awaited a b read
    → Consumes b c (take count buffer) → length buffer ≤ most
    → bytes ≡ read → ((more : List ℕ) → length more < most → IsUnfinished awaited (bytes ++ more))
    → HasRead awaited a c (read ++ take count buffer)
reads_front awaited a b c read bytes buffer count most so_far one small same missing =
    let piece_small : length (take count buffer) ≤ most = omega (arith, length-take count buffer, small) in
    reads_on awaited a b c read (take count buffer) most so_far one piece_small
    (subst (λ (bs : List ℕ). (more : List ℕ) → length more < most → IsUnfinished awaited (bs ++ more)) same missing)

-- An aborted call states nothing about the reply.
pub stops : {X : Type 0} (awaited : Awaited) (Says : List ℕ → X → Type 0) (a b : Option (List ℕ)) (asked answered : List Pull)
    (read : List ℕ) (result : Result X Aborted) → IsErr result → HasRead awaited a b read → Answers awaited Says a b asked answered result
stops awaited o a b asked answered read result failed has_read = search rules
