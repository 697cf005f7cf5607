use Rattle.coord_server.proofs.Signals.{may_print_after}
use Rattle.coord_commands.proofs.serving.serve_open.Goals as goal

pub serve_and_report-requires-clause-may_print : goal.serve_and_report-requires-clause-may_print
serve_and_report-requires-clause-may_print g c = λ _ _ earlier. may_print_after _ c.args.store.world earlier
