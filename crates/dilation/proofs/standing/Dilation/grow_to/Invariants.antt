use Rattle.dilation.proofs.standing.Dilation.grow_to.Given as goal

abbrev pub ghosts-advance_in : goal.ghosts-advance_in
ghosts-advance_in a = record { name = a.blank.name; parts = a.blank.parts }
