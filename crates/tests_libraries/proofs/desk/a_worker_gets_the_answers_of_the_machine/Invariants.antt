use Rattle.tests_libraries.proofs.desk.a_worker_gets_the_answers_of_the_machine.Given as goal

abbrev pub ghosts-one_worker : goal.ghosts-one_worker
ghosts-one_worker g a = record { name = a.blank.name; parts = a.blank.parts }
