use Rattle.simulation.proofs.run_line.Given as goal

abbrev pub ghosts-run_case : goal.ghosts-run_case
ghosts-run_case g a = record { name = a.blank.name; parts = a.blank.parts }
