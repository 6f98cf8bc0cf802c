-- Bytes are put under a limit.
use Rattle.std.specs.{List.AllByRecursion, Prelude.count_by}
use Rattle.std.proofs.Common.{◌≡◌, ◌≢◌, ℕ, ◌+◌, ◌-◌, ◌<◌, ◌≤◌, ◌↔◌, List, [], ◌∷◌, ◌++◌, length, map, sum, cond, refl}
use Rattle.std.proofs.{Common.{ap, subst, ◌∙◌, append_assoc, append-nil, arith, rules}, lemmas.Grind.common_steps}
use Rattle.std.proofs.{lemmas.List.length-append, lemmas.List.Sums.{sum_by-append, sum_by-cons}}
use Rattle.portmap_link.specs.{Asking.{GoesOn, IsPutAgain, is_put_later}, Flush.{Sends, ending_of}}
use Rattle.portmap_link.specs.Limit.{IsDue, PutsOn, PutsSome, SendsOn, bytes_put, fault_of, left_after, left_in}
use Rattle.portmap_link.specs.declared.device.Put.{Put, TheVariants.{Fault as PutFault, Later as PutLater, Wrote}}
use Rattle.portmap_link.specs.declared.outbox.Flush.{Flush, TheVariants.{Empty, Fault, Later}}
use Rattle.portmap_link.specs.declared.putting.Limit.{Limit, TheVariants.{Laters, Puts}}

-- ---- one more put

-- `count` bytes are written, with `laters` results `Later`, and `left` remains of the limit.
pub record HasPut (limit : Limit) (size : ℕ) (old new : List Put) (count laters : ℕ) (left : Limit) : Type 0 where
  pub added : List Put
  pub puts_on : PutsOn limit size added left (size - count)
  pub answers : new ≡ old ++ added
  pub met : count_by is_put_later added ≡ laters

puts_more : (limit : Limit) (size : ℕ) (added : List Put) (left : Limit) (rest : ℕ) (answer : Put) → PutsOn limit size added left rest
    → IsDue left rest
    → PutsSome rest answer
    → PutsOn limit size (added ++ answer ∷ []) (left_after left answer) (rest - bytes_put answer)
puts_more limit size [] left rest answer on due some = search rules
puts_more limit size (first ∷ added) left rest answer on due some =
    (on.0, on.1, puts_more (left_after limit first) (size - bytes_put first) added left rest answer on.2 due some)

both_laters : (xs ys : List Put) → count_by is_put_later (xs ++ ys) ≡ count_by is_put_later xs + count_by is_put_later ys
both_laters xs ys = sum_by-append (λ (p : Put). cond (is_put_later p) 1 0) xs ys

later_first : (answer : Put) (answers : List Put)
    → count_by is_put_later (answer ∷ answers) ≡ cond (is_put_later answer) 1 0 + count_by is_put_later answers
later_first answer answers = sum_by-cons (λ (p : Put). cond (is_put_later p) 1 0) answer answers

-- A put never raises the remaining limit.
pub left_less : (limit : Limit) (answer : Put) → left_in (left_after limit answer) ≤ left_in limit
left_less limit answer = search rules

-- A `Later` lowers the remaining limit.
pub left_for_later : (limit : Limit) → 0 < left_in limit → 1 + left_in (left_after limit PutLater) ≡ left_in limit
left_for_later limit some = search rules

-- One more put is made.
pub has_put_more : {limit : Limit} {size : ℕ} {old mid new : List Put} {count laters : ℕ} {left : Limit} (count' laters' : ℕ) (answer : Put)
    → HasPut limit size old mid count laters left → IsDue left (size - count)
    → PutsSome (size - count) answer → new ≡ mid ++ answer ∷ [] → count' ≡ count + bytes_put answer
    → laters' ≡ laters + count_by is_put_later (answer ∷ [])
    → HasPut limit size old new count' laters' (left_after left answer)
has_put_more {limit} {size} {old} {mid} {new} {count} {laters} {left} count' laters' answer so_far due some more counts mets = record {
  added = so_far.added ++ answer ∷ [];
  puts_on =
      let rest : size - count - bytes_put answer ≡ size - count' = omega (arith, counts) in
      subst (PutsOn limit size (so_far.added ++ answer ∷ []) (left_after left answer)) rest
      (puts_more limit size so_far.added left (size - count) answer so_far.puts_on due some);
  answers = more ∙ ap (λ (t : List Put). t ++ answer ∷ []) so_far.answers ∙ append_assoc old so_far.added (answer ∷ []);
  met = let one = both_laters so_far.added (answer ∷ []) in omega (arith, one, so_far.met, mets);
}

-- ---- properties of puts under a limit

-- The output allowed another call after each put.
pub puts_again : (limit : Limit) (size : ℕ) (added : List Put) (left : Limit) (rest : ℕ) → PutsOn limit size added left rest
    → AllByRecursion IsPutAgain added
puts_again limit size [] left rest on = tt
puts_again limit size (Wrote n ∷ added) left rest on = (tt, puts_again (left_after limit (Wrote n)) (size - n) added left rest on.2)
puts_again limit size (PutLater ∷ added) left rest on = (tt, puts_again (left_after limit PutLater) (size - 0) added left rest on.2)
puts_again limit size (PutFault ∷ added) left rest on = absurd on.1

-- Under `Puts`, each put counts.
pub puts_count : (n size : ℕ) (added : List Put) (left : Limit) (rest : ℕ) → PutsOn (Puts n) size added left rest
    → length added + left_in left ≡ n
puts_count n size [] left rest on = let same = ap left_in on.0 in omega (arith, same)
puts_count n size (answer ∷ added) left rest on =
    let more = puts_count (n - 1) (size - bytes_put answer) added left rest on.2 in
    omega (arith, more, on.0.1)

-- Under `Laters`, each `Later` counts.
pub laters_count : (n size : ℕ) (added : List Put) (left : Limit) (rest : ℕ) → PutsOn (Laters n) size added left rest
    → count_by is_put_later added + left_in left ≡ n
laters_count n size [] left rest on = let same = ap left_in on.0 in omega (arith, same)
laters_count n size (Wrote m ∷ added) left rest on = let more = laters_count n (size - m) added left rest on.2 in
    omega (arith, more, later_first (Wrote m) added)
laters_count n size (PutLater ∷ added) left rest on = let more = laters_count (n - 1) (size - 0) added left rest on.2 in
    omega (arith, more, on.0.1, later_first PutLater added)
laters_count n size (PutFault ∷ added) left rest on = absurd on.1

-- If all bytes are written, the limit of `Later` results is not reached.
pub laters_few : (n size : ℕ) (added : List Put) (left : Limit) (rest : ℕ) → 0 < n → PutsOn (Laters n) size added left rest → rest ≡ 0
    → 0 < left_in left
laters_few n size [] left rest some on none = let same = ap left_in on.0 in omega (arith, same, some)
laters_few n size (Wrote m ∷ added) left rest some on none = laters_few n (size - m) added left rest some on.2 none
laters_few n size (PutLater ∷ []) left rest some on none = search rules
laters_few n size (PutLater ∷ answer ∷ added) left rest some on none =
    laters_few (n - 1) (size - 0) (answer ∷ added) left rest on.2.0.1 on.2 none
laters_few n size (PutFault ∷ added) left rest some on none = absurd on.1

-- The puts before the last put, which was a `Later`.
pub record BeforeLater (n size : ℕ) (added : List Put) (rest : ℕ) : Type 0 where
  pub before : List Put
  pub left : Limit
  pub puts_on : PutsOn (Laters n) size before left rest
  pub last : added ≡ before ++ PutLater ∷ []
  pub few : count_by is_put_later before + 1 ≡ n

-- A limit of `Later` results is reached at a `Later`.
pub laters_end : (n size : ℕ) (added : List Put) (left : Limit) (rest : ℕ) → 0 < n → PutsOn (Laters n) size added left rest
    → left_in left ≡ 0
    → BeforeLater n size added rest
laters_end n size [] left rest some on none = absurd (let same = ap left_in on.0 in omega (arith, same, some, none))
laters_end n size (Wrote m ∷ added) left rest some on none =
    let more = laters_end n (size - m) added left rest some on.2 none in
    record {
      before = Wrote m ∷ more.before;
      left = more.left;
      puts_on = (on.0, on.1, more.puts_on);
      last = ap (λ (t : List Put). Wrote m ∷ t) more.last;
      few = let first = later_first (Wrote m) more.before in omega (arith, first, more.few);
    }
laters_end n size (PutLater ∷ []) left rest some on none = search rules
laters_end n size (PutLater ∷ answer ∷ added) left rest some on none =
    let more = laters_end (n - 1) (size - 0) (answer ∷ added) left rest on.2.0.1 on.2 none in
    record {
      before = PutLater ∷ more.before;
      left = more.left;
      puts_on = (on.0, on.1, more.puts_on);
      last = ap (λ (t : List Put). PutLater ∷ t) more.last;
      few = let first = later_first PutLater more.before in omega (arith, first, more.few, some);
    }
laters_end n size (PutFault ∷ added) left rest some on none = absurd on.1

-- ---- the first `Later` is the last

-- Puts wrote these bytes, and no put was a `Later`.
record OnlyWrote (size : ℕ) (added : List Put) (rest : ℕ) : Type 0 where
  counts : List ℕ
  all : added ≡ map Wrote counts
  total : sum counts + rest ≡ size

only_wrote : (limit : Limit) (size : ℕ) (added : List Put) (left : Limit) (rest : ℕ) → PutsOn limit size added left rest
    → count_by is_put_later added ≡ 0
    → OnlyWrote size added rest
only_wrote limit size [] left rest on none = record { counts = []; all = refl; total = omega (arith, on.1) }
only_wrote limit size (Wrote m ∷ added) left rest on none =
    let first = later_first (Wrote m) added in
    let more = only_wrote (left_after limit (Wrote m)) (size - m) added left rest on.2 (omega (arith, first, none)) in
    record {
      counts = m ∷ more.counts;
      all = ap (λ (t : List Put). Wrote m ∷ t) more.all;
      total = let sums : sum (m ∷ more.counts) ≡ m + sum more.counts = sum_by-cons (λ (x : ℕ). x) m more.counts in
          omega (arith, sums, more.total, on.1.1);
    }
only_wrote limit size (PutLater ∷ added) left rest on none = absurd (let first = later_first PutLater added in omega (arith, first, none))
only_wrote limit size (PutFault ∷ added) left rest on none = absurd on.1

sends_then : {size count : ℕ} {old new added : List Put} (flush : Flush) → count ≤ size → OnlyWrote size added (size - count)
    → new ≡ old ++ added ++ ending_of flush → Sends old new count flush
sends_then {old = old} flush within wrote answers = record {
  counts = wrote.counts;
  total = omega (arith, wrote.total, within);
  answers = answers ∙ ap (λ (t : List Put). old ++ t ++ ending_of flush) wrote.all;
}

-- The `Later` after the other puts is the last result.
ends_later : (old new added before : List Put) → new ≡ old ++ added ++ [] → added ≡ before ++ PutLater ∷ []
    → new ≡ old ++ before ++ PutLater ∷ []
ends_later old new added before answers last = search (rules, append_assoc)

-- Sending that ends at the first `Later`.
pub sends_once : {size : ℕ} {old new : List Put} {count laters : ℕ} (flush : Flush) → count ≤ size
    → SendsOn (Laters 1) size old new count laters flush
    → Sends old new count flush
sends_once {size} {old} {count = count} Empty within on =
    let few = laters_few 1 size on.added on.left (size - count) (omega arith) on.puts_on on.ends in
    let none : count_by is_put_later on.added ≡ 0 = omega (arith, laters_count 1 size on.added on.left (size - count) on.puts_on, few) in
    sends_then Empty within (only_wrote (Laters 1) size on.added on.left (size - count) on.puts_on none) on.answers
sends_once {size} {old} {new} {count} Later within on =
    let last = laters_end 1 size on.added on.left (size - count) (omega arith) on.puts_on on.ends.1 in
    let none : count_by is_put_later last.before ≡ 0 = omega (arith, last.few) in
    sends_then Later within (only_wrote (Laters 1) size last.before last.left (size - count) last.puts_on none)
    (ends_later old new on.added last.before on.answers last.last)
sends_once {size} {old} {count = count} Fault within on =
    let none : count_by is_put_later on.added ≡ 0 =
    omega (arith, laters_count 1 size on.added on.left (size - count) on.puts_on, on.ends.1) in
    sends_then Fault within (only_wrote (Laters 1) size on.added on.left (size - count) on.puts_on none) on.answers

-- ---- properties of sending

-- The result is `Empty` if and only if all bytes were written.
pub sends_whole : {limit : Limit} {size : ℕ} {old new : List Put} {count laters : ℕ} (flush : Flush) → count ≤ size
    → SendsOn limit size old new count laters flush → (flush ≡ Empty) ↔ (count ≡ size)
sends_whole flush within on = search rules

-- Otherwise bytes are left.
pub sends_part : {limit : Limit} {size : ℕ} {old new : List Put} {count laters : ℕ} (flush : Flush) → count ≤ size
    → SendsOn limit size old new count laters flush → flush ≢ Empty → count < size
sends_part {size = size} {count = count} flush within on part = let some : count ≢ size = λ e. part ((sends_whole flush within on).1 e) in
    omega (arith, some, within)

-- If sending ended by the limit of puts, all puts were made.
pub sends_all_turns : {n size : ℕ} {old new : List Put} {count laters : ℕ} → SendsOn (Puts n) size old new count laters Later
    → length new ≡ length old + n
sends_all_turns {n} {size} {old} {count = count} on =
    let made = ap length (on.answers ∙ append-nil (old ++ on.added)) in
    omega (arith, made, length-append old on.added, puts_count n size on.added on.left (size - count) on.puts_on, on.ends.1)

-- Unless a put fails, every put allows another.
pub sends_again : {limit : Limit} {size : ℕ} {old new : List Put} {count laters : ℕ} (flush : Flush) → fault_of flush ≡ []
    → SendsOn limit size old new count laters flush → GoesOn IsPutAgain old new
sends_again {limit} {size} {old} {count = count} flush whole on = record {
  added = on.added;
  grows = on.answers ∙ ap (λ (t : List Put). old ++ on.added ++ t) whole ∙ append-nil (old ++ on.added);
  again = puts_again limit size on.added on.left (size - count) on.puts_on;
}

-- ---- `Later` results of sending

-- The number of `Later` results is `laters`.
pub sends_laters : {limit : Limit} {size : ℕ} {old new : List Put} {count laters : ℕ} {flush : Flush}
    → SendsOn limit size old new count laters flush
    → count_by is_put_later new ≡ count_by is_put_later old + laters
sends_laters {old = old} {flush = flush} on = grind (arith, common_steps)

-- The number of `Later` results under a limit of `n`, by the way in which sending ended.
abbrev pub LatersAt : ℕ → ℕ → Flush → Type 0
LatersAt n laters Empty = laters < n
LatersAt n laters Later = laters ≡ n
LatersAt n laters Fault = laters < n

pub sends_laters_at : {n size : ℕ} {old new : List Put} {count laters : ℕ} (flush : Flush) → 0 < n
    → SendsOn (Laters n) size old new count laters flush
    → LatersAt n laters flush
sends_laters_at {n} {size} {count = count} Empty some on =
    let few = laters_few n size on.added on.left (size - count) some on.puts_on on.ends in
    omega (arith, laters_count n size on.added on.left (size - count) on.puts_on, few, on.met)
sends_laters_at {n} {size} {count = count} Later some on =
    omega (arith, laters_count n size on.added on.left (size - count) on.puts_on, on.ends.1, on.met)
sends_laters_at {n} {size} {count = count} Fault some on =
    omega (arith, laters_count n size on.added on.left (size - count) on.puts_on, on.ends.1, on.met)

-- The puts before the put that ended sending, if any. Fewer than `n` of them were `Later`.
pub record SendsEnd (n : ℕ) (old new : List Put) (flush : Flush) : Type 0 where
  pub before : List Put
  pub goes_on : GoesOn IsPutAgain old before
  pub few : count_by is_put_later before < count_by is_put_later old + n
  pub outcome : new ≡ before ++ ending_of flush

-- All puts but a failed put.
before_fault : {n size : ℕ} {old new : List Put} {count laters : ℕ} (flush : Flush) → SendsOn (Laters n) size old new count laters flush
    → laters < n
    → fault_of flush ≡ ending_of flush → SendsEnd n old new flush
before_fault {n} {size} {old} {count = count} flush on few same = record {
  before = old ++ on.added;
  goes_on = record { added = on.added; grows = refl; again = puts_again (Laters n) size on.added on.left (size - count) on.puts_on };
  few = omega (arith, both_laters old on.added, on.met, few);
  outcome = on.answers ∙ ap (λ (t : List Put). old ++ on.added ++ t) same;
}

pub sends_end : {n size : ℕ} {old new : List Put} {count laters : ℕ} (flush : Flush) → 0 < n
    → SendsOn (Laters n) size old new count laters flush
    → SendsEnd n old new flush
sends_end Empty some on = before_fault Empty on (sends_laters_at Empty some on) refl
sends_end Fault some on = before_fault Fault on (sends_laters_at Fault some on) refl
sends_end {n} {size} {old} {new} {count} Later some on =
    let last = laters_end n size on.added on.left (size - count) some on.puts_on on.ends.1 in
    record {
      before = old ++ last.before;
      goes_on = record {
        added = last.before;
        grows = refl;
        again = puts_again (Laters n) size last.before last.left (size - count) last.puts_on;
      };
      few = omega (arith, both_laters old last.before, last.few);
      outcome = ends_later old new on.added last.before on.answers last.last;
    }
