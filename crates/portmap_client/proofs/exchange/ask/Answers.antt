use Rattle.std.specs.Prelude.{count_by}
use Rattle.std.proofs.Common.{◌≡◌, sym, ap, ◌∙◌, arith}
use Rattle.portmap_link.specs.{Asking.is_pull_later, declared.outbox.Flush.TheVariants.{Empty, Later, Fault}}
use Rattle.portmap_link.proofs.PutsOn.{sends_laters, sends_laters_at, sends_part}
use Rattle.portmap_client.proofs.exchange.ask.Goals as goal

pub returns-in-Empty-clause-waited : goal.returns-in-Empty-clause-waited
returns-in-Empty-clause-waited g c =
    let client_result = c.send_all-sent.ensures in
    let few = sends_laters_at Empty (omega arith) (rw c.in-Empty.is at client_result.answers) in
    (few, omega (arith, ap (count_by is_pull_later) client_result.pulls, sends_laters client_result.answers))

pub returns-in-Later-clause-waited : goal.returns-in-Later-clause-waited
returns-in-Later-clause-waited g c =
    let client_result = c.send_all-sent.ensures in
    let all = sends_laters_at Later (omega arith) (rw c.in-Later.is at client_result.answers) in
    omega (arith, all, ap (count_by is_pull_later) client_result.pulls, sends_laters client_result.answers)

pub returns-in-Fault-clause-writes : goal.returns-in-Fault-clause-writes
returns-in-Fault-clause-writes g c =
    let sent = c.send_all-sent.result in
    let client_result = c.send_all-sent.ensures in
    record {
      prefix = record { count = sent.count; writes = client_result.written };
      part = sends_part sent.flush client_result.within client_result.answers
          (λ e. (let both : Fault ≡ Empty = sym c.in-Fault.is ∙ e in cc));
    }

pub returns-in-Fault-clause-waited : goal.returns-in-Fault-clause-waited
returns-in-Fault-clause-waited g c =
    let client_result = c.send_all-sent.ensures in
    let few = sends_laters_at Fault (omega arith) (rw c.in-Fault.is at client_result.answers) in
    omega (arith, few, ap (count_by is_pull_later) client_result.pulls, sends_laters client_result.answers)
