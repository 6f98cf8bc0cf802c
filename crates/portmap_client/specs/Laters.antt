-- The number of `Later` results of a device.
use Rattle.std.specs.Prelude.{◌≡◌, ℕ, ◌+◌, ◌<◌, List, count_by, Result, Ok, Err}
use Rattle.portmap_link.specs.{Asking.{is_pull_later, is_put_later}, declared.device.Pull.Pull, declared.device.Put.Put}
use Rattle.portmap_client.specs.declared.exchange.TheConstants.{LATERS_MOST}
use Rattle.portmap_client.specs.declared.fault.Aborted.{Aborted, TheVariants.TooManyTurns}

-- The number of answers that were `Later`.
abbrev pub laters : List Pull → List Put → ℕ
laters pulls puts = count_by is_pull_later pulls + count_by is_put_later puts

-- The number of `Later` results before and after an aborted call. The call ends with `TooManyTurns` at exactly LATERS_MOST of them:
-- profile.
abbrev pub WaitsAt : ℕ → ℕ → Aborted → Type 0
WaitsAt old new TooManyTurns = new ≡ old + LATERS_MOST
WaitsAt old new f = new < old + LATERS_MOST

-- The number of `Later` results before and after a call with this result.
abbrev pub Waits : {X : Type 0} → ℕ → ℕ → Result X Aborted → Type 0
Waits old new (Ok x) = new < old + LATERS_MOST
Waits old new (Err f) = WaitsAt old new f

-- The number of `Later` results before and after a call that returns their number.
abbrev pub Waited : ℕ → ℕ → Result ℕ Aborted → Type 0
Waited old new (Ok met) = (met < LATERS_MOST) × (new ≡ old + met)
Waited old new (Err f) = WaitsAt old new f
