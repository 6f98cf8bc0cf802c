use Rattle.tests_libraries.proofs.refusals.desk.a_chunk_for_a_halted_port_mapper_is_refused_as_halted.Given as goal

abbrev pub ghosts-ends_and_refuses : goal.ghosts-ends_and_refuses
ghosts-ends_and_refuses g a = record { name = a.blank.name; parts = a.blank.parts }
