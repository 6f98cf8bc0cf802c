-- Permits for connections, and the order of eviction: profile.
use Rattle.std.specs.Prelude.{◌≡◌, ℕ, ◌+◌, ◌-◌, ◌/◌, ◌<◌, ◌⊎◌, min, Bool, true, false}
use Rattle.portmap_worker.specs.{declared.limits.TheConstants.RESERVED_SHARE, declared.quota.EvictionCandidate.EvictionCandidate}

-- The number of permits that remote peers may have together, while local peers have `local`. These are all others but the reserved share,
-- or but half of the others if that is less.
abbrev pub remote_most : ℕ → ℕ → ℕ
remote_most most local = (most - local) - min (most / RESERVED_SHARE) ((most - local) / 2)

-- A permit is free for one more peer.
abbrev pub IsFree : Bool → ℕ → ℕ → ℕ → Type 0
IsFree true most local remote = local + remote < most
IsFree false most local remote = remote < remote_most most local

-- `one` is evicted before `other`: remote before local, then without an event before with one, then the older.
abbrev pub IsEvictedBefore : EvictionCandidate → EvictionCandidate → Type 0
IsEvictedBefore one other = ((one.is_local ≡ false) × (other.is_local ≡ true))
    ⊎ ((one.is_local ≡ other.is_local) × (one.is_ready ≡ false) × (other.is_ready ≡ true))
    ⊎ ((one.is_local ≡ other.is_local) × (one.is_ready ≡ other.is_ready) × (one.came < other.came))
