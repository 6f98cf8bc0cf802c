-- The reports of a poll of `mio`: profile.
use Rattle.std.specs.Prelude.{ℕ, ◌-◌, Bool, not, ◌&&◌, nat_le, if◌then◌else◌, List, map, Option, Some}
use Rattle.mio.specs.{Event.{event_token, is_error, is_read_closed}, Events.items, declared.event.event.Event.Event}
use Rattle.portmap_worker.specs.declared.system.Report.{Report, TheVariants.{Listener, Stream, Woken}}
use Rattle.portmap_daemon.specs.declared.mio_system.TheConstants.{FIRST_LISTENER, WAKE}
use Rattle.portmap_daemon.specs.declared.mio_system.MioSystem.{MioSystem}

-- The report for a token. A stream is closed if its peer sends no more and it has not failed.
abbrev pub report_of : ℕ → Bool → Bool → Report
report_of token read_closed error =
    if nat_le WAKE token then Woken
    else if nat_le FIRST_LISTENER token then Listener (token - FIRST_LISTENER)
    else Stream token (read_closed && not error)

abbrev pub reported : Event → Report
reported e = report_of (event_token e).0 (is_read_closed e) (is_error e)

-- The reports of the last poll.
abbrev pub all_reported : MioSystem → Option (List Report)
all_reported system = Some (map reported (items system.events))
