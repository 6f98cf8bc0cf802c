-- Registrations that wait for their names, and lists that wait for their turn: profile. Times are in milliseconds.
use Rattle.std.specs.Prelude.{◌≡◌, ℕ, ◌+◌, ◌-◌, ◌<◌, ◌≤◌, ◌^◌, ◌⊎◌, min, Option, Some, None, option_map}
use Rattle.portmap_worker.specs.declared.limits.TheConstants.{EPOCH_RETRIES_MOST, EPOCH_TIMEOUT_MS, NAME_TIMEOUT_MS}
use Rattle.portmap_worker.specs.declared.pending.Waiting.{Waiting, TheVariants.{Asked, Come, Epoch, List, Name}}

-- The earlier of two times, of which the first may be missing.
abbrev pub earliest : Option ℕ → ℕ → ℕ
earliest (Some time) other = min time other
earliest None other = other

-- The time until which the poll may wait for a pending link.
abbrev pub until : Waiting → ℕ → ℕ
until List now = now
until Come now = now
until Asked now = now
until (Name time) now = time
until (Epoch time epoch rounds) now = time

-- A registration stops waiting at `now`. Since its time for the name ended at `until`, at least EPOCH_TIMEOUT_MS have passed, and it was
-- retried at least EPOCH_RETRIES_MOST times.
abbrev pub StopsWaiting : ℕ → ℕ → ℕ → Type 0
StopsWaiting rounds now until = (EPOCH_RETRIES_MOST ≤ rounds) × (min (until + EPOCH_TIMEOUT_MS) (2 ^ 64 - 1) ≤ now)

-- The registration waits for this epoch at `now`: its own unless that was passed, or one that begins. Other functions decide which.
abbrev pub Awaits : Waiting → ℕ → Option ℕ → Type 0
Awaits List now epoch = epoch ≡ None
Awaits Come now epoch = epoch ≡ None
Awaits Asked now epoch = epoch ≡ None
Awaits (Name until) now epoch = ((now < until) × (epoch ≡ None)) ⊎ ((until ≤ now) × (begun : ℕ) × (epoch ≡ Some begun))
Awaits (Epoch until own rounds) now epoch = (epoch ≡ None) ⊎ (epoch ≡ Some own)

-- A list, or a registration of an active name, waits so from `now` on, given this epoch.
abbrev pub GoesOn : Waiting → ℕ → Option ℕ → Option Waiting → Type 0
GoesOn List now epoch next = next ≡ Some List
GoesOn Come now epoch next = next ≡ Some Asked
GoesOn Asked now epoch next = next ≡ Some (Name (min (now + NAME_TIMEOUT_MS) (2 ^ 64 - 1)))
GoesOn (Name until) now epoch next = ((now < until) × (next ≡ Some (Name until)))
    ⊎ ((until ≤ now) × (next ≡ option_map (λ n. Epoch until n 0) epoch))
GoesOn (Epoch until own rounds) now epoch next = (StopsWaiting rounds now until × (next ≡ None))
    ⊎ ((StopsWaiting rounds now until → ⊥) × (next ≡ option_map (λ n. Epoch until n (min (rounds + 1) (2 ^ 32 - 1))) epoch))
