use Rattle.std.specs.Prelude.{string_bytes}
use Rattle.std.proofs.Common.{map, length, rules}
use Rattle.portmap_command.proofs.Completing.{can_serve, port_within}
use Rattle.portmap_command.proofs.words.read_words.Goals as goal

pub returns-in_err-command-clause-fault : goal.returns-in_err-command-clause-fault
returns-in_err-command-clause-fault c =
    let named = c.in_err-command.ensures.fault (length c.args.words.now) in
    search rules

pub returns-clause-port : goal.returns-clause-port
returns-clause-port c =
    let (items, spells, holds) = c.in_ok-plan.ensures.spelled in
    port_within (map string_bytes c.args.words.now) c.args.env.now c.in_ok-command.command
    (items, c.in_ok-plan.plan, spells, holds, c.in_ok-command.ensures.made)

pub returns-clause-ranges : goal.returns-clause-ranges
returns-clause-ranges c =
    let (items, spells, holds) = c.in_ok-plan.ensures.spelled in
    can_serve (map string_bytes c.args.words.now) c.args.env.now c.in_ok-command.command
    (items, c.in_ok-plan.plan, spells, holds, c.in_ok-command.ensures.made)
