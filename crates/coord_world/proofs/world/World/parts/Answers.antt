use Rattle.std.proofs.Common.{◌≡◌, sym, subst}
use Rattle.std.proofs.lemmas.Result.{IfOk-weaker}
use Rattle.coord_world.specs.protocol.Rows.{listed, rows_of, RowsFit}
use Rattle.coord_world.proofs.listings.RowsOfWorldFit.{rows_of_world_fit}
use Rattle.coord_world.proofs.world.World.parts.Goals as goal

pub returns-clause-fit : goal.returns-clause-fit
returns-clause-fit c =
    let w = c.self.inside.tables in
    IfOk-weaker c.list.result (λ parts. listed parts ≡ rows_of w) (λ parts. RowsFit (listed parts)) (λ parts same. subst RowsFit (sym same) (rows_of_world_fit w c.self.invariant)) c.list.ensures
