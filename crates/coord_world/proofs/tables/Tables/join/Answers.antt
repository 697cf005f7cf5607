use Rattle.std.proofs.Common.{IsSome, sym, subst, arith}
use Rattle.coord_types.specs.Table as table
use Rattle.coord_world.specs.protocol.NumberedWorld.{World}
use Rattle.coord_tables.proofs.Found.{set_stays}
use Rattle.coord_world.proofs.tables.Tables.join.Goals as goal

-- the sizes of a table and of a number, and that the other node is there
pub replace-requires-2 : goal.replace-requires-2
replace-requires-2 c =
    let there =
    subst (λ m. IsSome (table.get m c.args.b)) (sym c.replace.ensures)
    (set_stays c.self.inside.nodes c.args.a _ c.args.b (subst (λ (w : World). IsSome (table.get w.nodes c.args.b)) (sym c.self.view_is) c.requires.other)) in
    (omega arith, (omega arith, there))
