use Rattle.std.proofs.Common.{[]}
use Rattle.coord_engine.specs.Facade.{past_in}
use Rattle.coord_server.proofs.instance.serve_instance.Given as goal

abbrev pub ghosts-serve_ledger-L-Ledger : goal.ghosts-serve_ledger-L-Ledger
ghosts-serve_ledger-L-Ledger g a = record { name = a.blank.name; parts = a.blank.parts }

abbrev pub ghosts-serve_ledger-L-Origin : goal.ghosts-serve_ledger-L-Origin
ghosts-serve_ledger-L-Origin g a = record { history = a.writer.history; earlier = a.writer.steps; base = a.ledger.log.base; before = []; disk = past_in g.D.Disk.model a.ledger.disk }
