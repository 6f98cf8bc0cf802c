use Rattle.tests_daemon.proofs.workers.a_worker_sends_what_another_one_has_registered.Given as goal

abbrev pub ghosts-two_workers : goal.ghosts-two_workers
ghosts-two_workers g a = record { name = a.blank.name; parts = a.blank.parts }
