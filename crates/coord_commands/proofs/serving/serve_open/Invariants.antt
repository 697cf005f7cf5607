use Rattle.coord_engine.proofs.Releasing.{gives_more}
use Rattle.coord_engine.specs.Facade.{GivesSignal}
use Rattle.coord_commands.proofs.serving.serve_open.Given as goal

abbrev pub ghosts-serve_and_report : goal.ghosts-serve_and_report
ghosts-serve_and_report g a = record { history = a.written.0; gives = GivesSignal a.store.world; lasts = gives_more a.store.world }
