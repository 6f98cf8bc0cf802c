use Rattle.portmap_command.proofs.faults.report.Goals as goal

pub returns-in-Unknown : goal.returns-in-Unknown
returns-in-Unknown g c = rw c.in-Unknown.is c.refuse_word.ensures

pub returns-in-TwoCommands : goal.returns-in-TwoCommands
returns-in-TwoCommands g c = rw c.in-TwoCommands.is c.refuse_word-in-TwoCommands.ensures
