-- Which signals a server may print, in each of its instances.
use Rattle.std.proofs.Common.{List, refl}
use Rattle.atomic_table.specs.Seated.{TableId}
use Rattle.coord_types.specs.declared.steps.Step.{Step}
use Rattle.coord_world.specs.Facade.{World, fold}
use Rattle.coord_engine.proofs.Releasing.{gives_after}
use Rattle.coord_engine.specs.Facade.{GivesSignal, MayPrint}
use Rattle.coord_server.specs.Signals.{MaySignal}

-- a signal of a settled step of an instance that goes on in its history
pub may_print_after : (history : TableId) (began : World) (earlier : List Step) → MayPrint history earlier (fold began earlier) (MaySignal history (GivesSignal began))
may_print_after history began earlier settled step node epoch gives = (refl, gives_after began earlier settled step node epoch gives)
