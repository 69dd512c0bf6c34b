use Rattle.tests_peers.proofs.growths.a_set_grows_by_what_it_lacks.Given as goal

abbrev pub ghosts-follow_on_corridor : goal.ghosts-follow_on_corridor
ghosts-follow_on_corridor g a = record { name = a.blank.name; parts = a.blank.parts }
