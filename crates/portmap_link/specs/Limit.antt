-- Puts of bytes until all are taken or a limit is reached.
use Rattle.std.specs.Prelude.{◌≡◌, ℕ, ◌+◌, ◌-◌, ◌<◌, ◌≤◌, List, [], ◌∷◌, ◌++◌, count_by}
use Rattle.portmap_link.specs.Asking.{is_put_later}
use Rattle.portmap_link.specs.declared.device.Put.{Put, TheVariants.{Fault as PutFault, Later as PutLater, Wrote}}
use Rattle.portmap_link.specs.declared.outbox.Flush.{Flush, TheVariants.{Empty, Fault, Later}}
use Rattle.portmap_link.specs.declared.putting.Limit.{Limit, TheVariants.{Laters, Puts}}

-- The number of further puts, or of further `Later` results, that reach a limit.
abbrev pub left_in : Limit → ℕ
left_in (Puts n) = n
left_in (Laters n) = n

-- The largest number of puts for `size` bytes: each put that is not `Later` writes at least one byte or is the last.
abbrev pub puts_most : Limit → ℕ → ℕ
puts_most (Puts n) size = n
puts_most (Laters n) size = size + n

-- The remaining limit after a put with this result.
abbrev pub left_after : Limit → Put → Limit
left_after (Puts n) answer = Puts (n - 1)
left_after (Laters n) (Wrote count) = Laters n
left_after (Laters n) PutLater = Laters (n - 1)
left_after (Laters n) PutFault = Laters n

-- The number of bytes that a put wrote.
abbrev pub bytes_put : Put → ℕ
bytes_put (Wrote n) = n
bytes_put PutLater = 0
bytes_put PutFault = 0

-- A put is due: bytes are left, and the limit is not reached.
abbrev pub IsDue : Limit → ℕ → Type 0
IsDue limit size = (0 < size) × (0 < left_in limit)

-- A put of `size` bytes may have this result, and another put may follow.
abbrev pub PutsSome : ℕ → Put → Type 0
PutsSome size (Wrote n) = (0 < n) × (n ≤ size)
PutsSome size PutLater = Unit {0}
PutsSome size PutFault = ⊥

-- Each of these puts was made when it was due. They lead from `limit` and `size` bytes left to `limit'` and `size'`.
abbrev pub PutsOn : Limit → ℕ → List Put → Limit → ℕ → Type 0
PutsOn limit size [] limit' size' = (limit ≡ limit') × (size ≡ size')
PutsOn limit size (answer ∷ answers) limit' size' =
    IsDue limit size × PutsSome size answer × PutsOn (left_after limit answer) (size - bytes_put answer) answers limit' size'

-- The result after which no more is put.
abbrev pub fault_of : Flush → List Put
fault_of Empty = []
fault_of Later = []
fault_of Fault = PutFault ∷ []

-- Sending ends so with this remaining limit and `size` bytes left.
abbrev pub EndsAt : Limit → ℕ → Flush → Type 0
EndsAt left size Empty = size ≡ 0
EndsAt left size Later = (0 < size) × (left_in left ≡ 0)
EndsAt left size Fault = IsDue left size

-- Of `size` bytes offered under a limit, `count` were written, with `laters` results `Later`, and sending ended so. A
-- put is made if and only if it is due, until a put fails.
pub record SendsOn (limit : Limit) (size : ℕ) (old new : List Put) (count laters : ℕ) (flush : Flush) : Type 0 where
  pub added : List Put
  pub left : Limit
  pub puts_on : PutsOn limit size added left (size - count)
  pub ends : EndsAt left (size - count) flush
  pub answers : new ≡ old ++ added ++ fault_of flush
  pub met : count_by is_put_later added ≡ laters
