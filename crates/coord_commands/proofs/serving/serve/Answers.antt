use Rattle.std.proofs.Common.{None}
use Rattle.coord_commands.proofs.Endings.{serves_weaker}
use Rattle.coord_commands.proofs.Opening.{of_ending}
use Rattle.coord_commands.specs.Serving.{IsOfServing}
use Rattle.coord_commands.proofs.serving.serve.Goals as goal

pub returns-clause-served : goal.returns-clause-served
returns-clause-served g c = serves_weaker _ (IsOfServing None) c.args.address.now None None c.serve_in.result _ _ (of_ending _ _ _ _ _) c.serve_in.ensures.served
