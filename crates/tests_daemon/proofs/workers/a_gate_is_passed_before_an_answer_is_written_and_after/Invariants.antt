use Rattle.tests_daemon.proofs.workers.a_gate_is_passed_before_an_answer_is_written_and_after.Given as goal

abbrev pub ghosts-written_at : goal.ghosts-written_at
ghosts-written_at g a = record { name = a.blank.name; parts = a.blank.parts }
