use Rattle.std.proofs.Common.{sym, ◌∙◌}
use Rattle.coord_store.specs.Kept.{has_stopped}
use Rattle.coord_server.specs.Printed.{is_amiss}
use Rattle.coord_server.proofs.Ends.{not_stopped, served_none, whole_if_none}
use Rattle.coord_server.proofs.server_end.ServerEnd.into_closed.Goals as goal

pub returns-in-None-clause-by_close : goal.returns-in-None-clause-by_close
returns-in-None-clause-by_close g c =
    served_none (has_stopped c.args.self.closed.store) c.args.self.served (is_amiss c.args.self.printer c.args.self.closed.settled) (sym c.fault-fault.ensures ∙ c.in-None.is)

pub returns-in-None-clause-going : goal.returns-in-None-clause-going
returns-in-None-clause-going g c =
    not_stopped (has_stopped c.args.self.closed.store) c.args.self.served (is_amiss c.args.self.printer c.args.self.closed.settled) (sym c.fault-fault.ensures ∙ c.in-None.is)

pub returns-in-None-clause-whole : goal.returns-in-None-clause-whole
returns-in-None-clause-whole g c =
    whole_if_none (has_stopped c.args.self.closed.store) c.args.self.served c.args.self.printer.is_broken c.args.self.printer.last.step c.args.self.closed.settled (sym c.fault-fault.ensures ∙ c.in-None.is)
