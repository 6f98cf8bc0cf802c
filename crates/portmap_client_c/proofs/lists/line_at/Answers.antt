use Rattle.std.proofs.{Common.{drop, take, arith}, lemmas.List.length-drop}
use Rattle.portmap_client_c.proofs.NextLine.{cut, line_fault, next_line, uncut_fault, window}
use Rattle.portmap_client_c.proofs.lists.line_at.Goals as goal

pub returns-in_default-clause-fault : goal.returns-in_default-clause-fault
returns-in_default-clause-fault c =
    let none = rw c.split_at.ensures.back at c.in_default.ensures in
    uncut_fault (drop c.args.at c.args.bytes.now) (omega (arith, length-drop c.args.at c.args.bytes.now, c.requires)) none

pub returns-in-Ok-clause-found : goal.returns-in-Ok-clause-found
returns-in-Ok-clause-found c =
    let bytes = c.args.bytes.now in
    let found = rw c.split_at.ensures.back at c.in-Some.ensures in
    let reads = c.in-Ok.ensures.found (take c.in-Some.size (drop c.args.at bytes))
    (window bytes c.args.at c.in-Some.size found c.requires.0) in
    rw c.bytes.ensures.bytes (next_line bytes c.args.at c.in-Some.size found c.in-Ok.line (omega (arith, c.requires)) reads)

pub returns-in-Err-clause-fault : goal.returns-in-Err-clause-fault
returns-in-Err-clause-fault c =
    let bytes = c.args.bytes.now in
    let found = rw c.split_at.ensures.back at c.in-Some.ensures in
    let fault = c.in-Err.ensures.fault (take c.in-Some.size (drop c.args.at bytes))
    (window bytes c.args.at c.in-Some.size found c.requires.0) in
    line_fault (drop c.args.at bytes) (take c.in-Some.size (drop c.args.at bytes))
    (drop 1 (drop c.in-Some.size (drop c.args.at bytes))) c.in-Err.fault (cut bytes c.args.at c.in-Some.size found) fault
