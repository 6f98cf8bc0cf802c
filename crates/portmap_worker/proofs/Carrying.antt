-- Lemmas: a chunk is read between two writes.
use Rattle.std.specs.Io.KnownBytes.{Keeps, Consumes}
use Rattle.std.proofs.Common.{◌≡◌, ◌≤◌, ℕ, List, [], ◌∷◌, ◌++◌, length, take, map, Option, Some, None, sym, ap, ◌∙◌}
use Rattle.std.proofs.{Common.{append_assoc, inl, inr, arith}, KnownBytes.{Appends-trans, Appends-kept}}
use Rattle.std.proofs.lemmas.List.{length-take}
use Rattle.portmap_core.specs.declared.event.Answer.{Answer}
use Rattle.portmap_link.specs.{Asking.Devices, Flush.{Moves, LastPut, Sends, ending_of}}
use Rattle.portmap_link.specs.{declared.device.Put.{Put, TheVariants.Wrote}, declared.outbox.Flush.Flush}
use Rattle.portmap_link.specs.declared.device.Put.TheVariants as put
use Rattle.portmap_link.specs.declared.device.Pull.TheVariants as pull
use Rattle.portmap_link.specs.declared.outbox.Flush.TheVariants as flush
use Rattle.portmap_worker.specs.{Carrying.{IsRead, WritingEnds, FollowsAnswer}, declared.carrier.Next.Next}
use Rattle.portmap_worker.specs.declared.limits.TheConstants.{PULL_BYTES_MOST}

-- Bytes are read between two calls that read nothing.
pub read_between : (a b c d : Option (List ℕ)) (bs : List ℕ) → Keeps a b → Consumes b c bs → Keeps c d → Consumes a d bs
read_between None b c d bs one two three = tt
read_between (Some x) None c d bs one two three = absurd one
read_between (Some x) (Some y) None d bs one two three = absurd two
read_between (Some x) (Some y) (Some z) None bs one two three = absurd three
read_between (Some x) (Some y) (Some z) (Some w) bs one two three = sym one ∙ two ∙ ap (λ (t : List ℕ). bs ++ t) (sym three)

-- A prefix of the buffer was read.
pub is_read : (old new : Devices) (n : ℕ) (buffer : List ℕ) → n ≤ length buffer → length buffer ≡ PULL_BYTES_MOST
    → Consumes old.left new.left (take n buffer) → new.pulls ≡ old.pulls ++ pull.Piece n ∷ [] → IsRead old new (take n buffer)
is_read old new n buffer within room consumed pulled =
    let len : length (take n buffer) ≡ n = omega (arith, length-take n buffer, within) in
    record {
      consumed = consumed;
      pulled = pulled ∙ ap (λ (k : ℕ). old.pulls ++ pull.Piece k ∷ []) (sym len);
      few = omega (arith, len, within, room);
    }

-- More bytes are added after a first write, and a second write takes them.
pub moves_more : (a b c d : Option (List ℕ)) (before mid more after : List ℕ) → Moves a b before mid → Keeps b c
    → Moves c d (mid ++ more) after → Moves a d (before ++ more) after
moves_more a b c d before mid more after one kept two = (
  one.0 ++ two.0,
  Appends-trans a c d one.0 two.0 (Appends-kept a b c one.0 one.1 kept) two.1,
  append_assoc one.0 two.0 after ∙ ap (λ (t : List ℕ). one.0 ++ t) two.2 ∙ sym (append_assoc one.0 mid more)
      ∙ ap (λ (t : List ℕ). t ++ more) one.2,
)

-- The last put since `mid` is also the last put since `old`.
pub last_since : (old mid new more : List Put) (last : Put) → mid ≡ old ++ more → LastPut mid new last → LastPut old new last
last_since old mid new more last grew told = record {
  before = more ++ told.before;
  grows =
      told.grows ∙ ap (λ (t : List Put). t ++ told.before ++ last ∷ []) grew
      ∙ ap (λ (t : List Put). t ++ last ∷ []) (append_assoc old more told.before);
}

pub ends_since : (ended : Flush) (old mid new more : List Put) (waiting : List ℕ) → mid ≡ old ++ more → WritingEnds ended mid new waiting
    → WritingEnds ended old new waiting
ends_since flush.Empty old mid new more waiting grew ends = ends
ends_since flush.Later old mid new more waiting grew ends = (ends.0, last_since old mid new more put.Later grew ends.1)
ends_since flush.Fault old mid new more waiting grew ends = last_since old mid new more put.Fault grew ends

-- The next step after a second flush, by all puts since before the first flush.
pub follows_flush : (acted : Answer) (old mid new : List Put) (count : ℕ) (ended : Flush) (waiting : List ℕ) (next : Next)
    → Sends old mid count ended → FollowsAnswer acted mid new waiting next → FollowsAnswer acted old new waiting next
follows_flush acted old mid new count ended waiting next sent (inl full) = inl full
follows_flush acted old mid new count ended waiting next sent (inr follows) =
    let more = map Wrote sent.counts ++ ending_of ended in
    inr (
      follows.0,
      ends_since follows.0 old mid new more waiting
          (sent.answers ∙ append_assoc old (map Wrote sent.counts) (ending_of ended)) follows.1,
      follows.2,
    )
