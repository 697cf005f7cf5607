use Rattle.coord_engine.proofs.history.LogPrefix.join.Given as goal

abbrev pub ghosts-join_as : goal.ghosts-join_as
ghosts-join_as a = record { steps = a.other.steps }
