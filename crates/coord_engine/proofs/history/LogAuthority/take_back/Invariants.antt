use Rattle.coord_engine.proofs.history.LogAuthority.take_back.Given as goal

abbrev pub ghosts-take_back_as : goal.ghosts-take_back_as
ghosts-take_back_as a = record { steps = a.reader.steps }
