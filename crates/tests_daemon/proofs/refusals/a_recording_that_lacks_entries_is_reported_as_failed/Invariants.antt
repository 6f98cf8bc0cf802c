use Rattle.tests_daemon.proofs.refusals.a_recording_that_lacks_entries_is_reported_as_failed.Given as goal

abbrev pub ghosts-is_recorded_whole : goal.ghosts-is_recorded_whole
ghosts-is_recorded_whole g a = record { name = a.blank.name; parts = a.blank.parts }
