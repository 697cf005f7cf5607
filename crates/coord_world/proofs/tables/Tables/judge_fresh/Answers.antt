use Rattle.std.proofs.Common.{sym, ◌∙◌}
use Rattle.coord_node.specs.Steps.{kind_ordered}
use Rattle.coord_world.specs.declared.verdicts.Verdict.TheVariants.{Fresh}
use Rattle.coord_world.specs.Facade.{against_command, state}
use Rattle.coord_world.proofs.Acceptance.{refuses}
use Rattle.coord_world.proofs.tables.Tables.judge_fresh.Goals as goal

pub returns-in-Err : goal.returns-in-Err
returns-in-Err c = sym (refuses (Fresh (kind_ordered (state c.args.self.now) c.args.command.now)) c.in-Err.refusal (against_command c.args.self.now c.args.command.now) (sym c.judge_command.ensures ∙ c.in-Err.is))
