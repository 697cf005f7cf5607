use Rattle.std.proofs.Common.{◌++◌}
use Rattle.coord_engine.proofs.history.LogAuthority.write_on.Given as goal

abbrev pub ghosts-write_as : goal.ghosts-write_as
ghosts-write_as g a = record { steps = g.L.Origin.earlier ++ a._last.now }
