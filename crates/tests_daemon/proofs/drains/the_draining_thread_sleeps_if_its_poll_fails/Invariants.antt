use Rattle.tests_daemon.proofs.drains.the_draining_thread_sleeps_if_its_poll_fails.Given as goal

abbrev pub ghosts-polls : goal.ghosts-polls
ghosts-polls g a = record { name = a.blank.name; parts = a.blank.parts }
