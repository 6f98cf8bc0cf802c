use Rattle.portmap_command.proofs.health.do_health.Goals as goal

pub returns-in-Err-check-clause-printed : goal.returns-in-Err-check-clause-printed
returns-in-Err-check-clause-printed g c =
    let printed = c.report-in-Err-check.ensures in (
      c.check.result,
      c.check-2.result,
      c.check.ensures,
      rw c.in_default.is (λ has. c.check-2.ensures),
      rw (c.in_default.is, c.if-not-has_ipv6.false, c.in-Err-check.is) (printed.status, printed.line),
    )
