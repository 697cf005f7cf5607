use Rattle.std.proofs.lemmas.Result.{IfOk-weaker}
use Rattle.coord_server.proofs.serving.serve_accepted.Goals as goal

pub returns-clause-served : goal.returns-clause-served
returns-clause-served g c = IfOk-weaker c.serve_callers.result _ _ (λ ended run. (c.args.callers, c.requires.timeouts, run)) c.serve_callers.ensures.served
