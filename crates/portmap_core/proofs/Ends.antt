-- The end of the port mapper, the limits that a run keeps, and the timeout of a connection that holds a name.
use Rattle.std.specs.Prelude.{◌||◌}
use Rattle.std.proofs.{Common.{◌≡◌, ℕ, Bool, true, false, [], rules}, lemmas.List.nil_from_length}
use Rattle.portmap_wire.specs.declared.request.Request.{Request}
use Rattle.portmap_table.specs.Rows.{Names}
use Rattle.portmap_core.specs.Config.{Configuration}
use Rattle.portmap_core.specs.Laws.{EndsAreFinal, EndsLeaveNoName, HoldersOutlastTheirTime, KeepsLimits, RunsKeepLimits}
use Rattle.portmap_core.specs.{Owned.IsOwned, Serving.{Served, kill_served, served}, State.{State, empty_state}}
use Rattle.portmap_core.specs.Step.{halted_by}
use Rattle.portmap_core.proofs.{Owned.owned_empty, Runs.run_owned}

pub ends_are_final : EndsAreFinal
ends_are_final cfg s s' e h step = search rules

pub holders_outlast_their_time : HoldersOutlastTheirTime
holders_outlast_their_time cfg s s' slot fate connection here holds step = search rules

-- ---- the end of the port mapper

-- A result ends the port mapper only if no name is active.
abbrev LeavesNone : Names → Served → Type 0
LeavesNone names o = halted_by o.fate false ≡ true → names.active ≡ []

kills : (cfg : Configuration) (names : Names) → cfg.relaxed ≡ false → LeavesNone names (kill_served cfg names)
kills cfg names strict = search (rules, nil_from_length)

module _ (cfg : Configuration) (names : Names) (local : Bool) (slot : ℕ) (strict : cfg.relaxed ≡ false) where
  serves_on : (request : Request) (creation : ℕ) → LeavesNone names (served cfg names local slot request creation)
  serves_on request creation = search (rules, kills)

pub ends_leave_no_name : EndsLeaveNoName
ends_leave_no_name cfg s s' o strict step ended = search (rules, serves_on)

-- ---- limits

keeps_limits : (cfg : Configuration) (s : State) → IsOwned cfg s → KeepsLimits cfg s
keeps_limits cfg s owned = search rules

pub runs_keep_limits : RunsKeepLimits
runs_keep_limits cfg es s run = keeps_limits cfg s (run_owned cfg es empty_state s (owned_empty cfg) run)
