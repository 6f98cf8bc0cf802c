use Rattle.tests_daemon.proofs.workers.two_workers_hold_an_answer_at_once.Given as goal

abbrev pub ghosts-two_workers : goal.ghosts-two_workers
ghosts-two_workers g a = record { name = a.blank.name; parts = a.blank.parts }
