use Rattle.std.proofs.Common.{◌++◌, ap, ◌∙◌}
use Rattle.coord_node.specs.Steps.{transitions}
use Rattle.coord_world.specs.Facade.{receipts, signals, state}
use Rattle.coord_world.proofs.transitions.NewFronts.{fronts_are}
use Rattle.coord_world.proofs.tables.Tables.apply.Goals as goal

pub returns-clause-outputs : goal.returns-clause-outputs
returns-clause-outputs c =
    let w = c.args.self.now in
    let s = c.args.step.now in
    c.in_ok-outputs.ensures.outputs ∙ ap (λ fronts. receipts s ++ signals (transitions w.version (state w) s) ++ fronts) (fronts_are w s c.requires)
