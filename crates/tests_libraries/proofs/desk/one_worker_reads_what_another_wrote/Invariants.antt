use Rattle.tests_libraries.proofs.desk.one_worker_reads_what_another_wrote.Given as goal

abbrev pub ghosts-one_reads_the_other : goal.ghosts-one_reads_the_other
ghosts-one_reads_the_other g a = record { name = a.blank.name; parts = a.blank.parts }
