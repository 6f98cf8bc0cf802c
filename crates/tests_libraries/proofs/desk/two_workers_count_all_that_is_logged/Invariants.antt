use Rattle.tests_libraries.proofs.desk.two_workers_count_all_that_is_logged.Given as goal

abbrev pub ghosts-two_workers : goal.ghosts-two_workers
ghosts-two_workers g a = record { name = a.blank.name; parts = a.blank.parts }
