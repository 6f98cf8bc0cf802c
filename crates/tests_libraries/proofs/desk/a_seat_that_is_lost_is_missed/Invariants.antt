use Rattle.tests_libraries.proofs.desk.a_seat_that_is_lost_is_missed.Given as goal

abbrev pub ghosts-two_workers : goal.ghosts-two_workers
ghosts-two_workers g a = record { name = a.blank.name; parts = a.blank.parts }
