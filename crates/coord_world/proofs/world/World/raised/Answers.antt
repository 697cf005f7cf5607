use Rattle.std.proofs.Common.{◌≡◌, sym, subst}
use Rattle.coord_world.specs.laws.Raised.{RaisesWell}
use Rattle.coord_world.specs.laws.Waves.{AllReady}
use Rattle.coord_world.specs.Facade.{InRange, Legal, World}
use Rattle.coord_world.proofs.legal.Versions.{raised_is_legal}
use Rattle.coord_world.proofs.world.World.raised.Goals as goal

raises_well : (w v : World) → w ≡ v → InRange w → Legal v → v.version ≡ 1 → AllReady v → RaisesWell w
raises_well w v same range legal first ready =
    raised_is_legal w range (subst Legal (sym same) legal) (rw same first) (subst AllReady (sym same) ready)

pub invariant_of-result : goal.invariant_of-result
invariant_of-result c =
    subst InRange (sym c.in_ok-tables.ensures) (raises_well c.self.inside.tables c.args.self.now c.self.view_is c.self.invariant c.requires.legal c.requires.first c.requires.ready).in_range

pub returns-clause-legal : goal.returns-clause-legal
returns-clause-legal c =
    subst Legal (sym c.in_ok-tables.ensures) (raises_well c.self.inside.tables c.args.self.now c.self.view_is c.self.invariant c.requires.legal c.requires.first c.requires.ready).legal
