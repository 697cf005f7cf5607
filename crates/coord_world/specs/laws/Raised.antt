-- The migration to version 2 of a world of version 1 in which every node is Ready.
use Rattle.std.specs.Prelude.{◌≡◌}
use Rattle.coord_world.specs.laws.Waves.{AllReady}
use Rattle.coord_world.specs.protocol.Legal.{Legal}
use Rattle.coord_world.specs.protocol.NumberedWorld.{World}
use Rattle.coord_world.specs.protocol.Outputs.{again}
use Rattle.coord_world.specs.protocol.Ranges.{InRange}

-- the world after the migration: only the version changes, because all distances of version 1 are 0
abbrev pub raised : World → World
raised w = record w { version = 2 }

-- a migrated world is legal and in its ranges, and has the same resend list
pub record RaisesWell (w : World) : Type 0 where
  pub in_range : InRange (raised w)
  pub legal : Legal (raised w)
  pub same_again : again (raised w) ≡ again w

abbrev pub RaisedIsLegal : Type 0
RaisedIsLegal = (w : World) → InRange w → Legal w → w.version ≡ 1 → AllReady w → RaisesWell w
