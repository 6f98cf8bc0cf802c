-- Bytes of replies that wait to be written, and the connections that are reset for that: profile.
use Rattle.std.specs.Prelude.{◌≡◌, ℕ, ◌+◌, ◌/◌, ◌<◌, ◌⊎◌, Bool, false}
use Rattle.portmap_worker.specs.declared.limits.TheConstants.{UNSENT_HEAVY_SHARE, UNSENT_SPARED_SHARE}

-- This many bytes are many for one connection, if `most` may wait over all.
abbrev pub AreMany : ℕ → ℕ → Type 0
AreMany most bytes = most / UNSENT_HEAVY_SHARE < bytes

-- A connection may be reset: more than `most` bytes wait in total. Unless far more wait, its peer is not young, and either is remote or no
-- bytes wait for remote peers with many bytes each.
abbrev pub MayReset : Bool → Bool → ℕ → ℕ → ℕ → Type 0
MayReset is_local is_young most total remote = (most < total)
    × ((most + most / UNSENT_SPARED_SHARE < total) ⊎ ((is_young ≡ false) × ((is_local ≡ false) ⊎ (remote ≡ 0))))
