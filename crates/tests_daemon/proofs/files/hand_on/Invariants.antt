use Rattle.tests_daemon.proofs.files.hand_on.Given as goal

abbrev pub ghosts-hand_on_at : goal.ghosts-hand_on_at
ghosts-hand_on_at g a = record { name = a.blank.name; parts = a.blank.parts }
