use Rattle.std.proofs.Common.{inr, refl, sym, ap, ◌∙◌}
use Rattle.coord_codec.specs.Worlds.{world}
use Rattle.coord_world.specs.protocol.Rows.{rows_of}
use Rattle.coord_store.proofs.snapshot.read_snapshot.Goals as goal

pub returns-in-Some-clause-refused : goal.returns-in-Some-clause-refused
returns-in-Some-clause-refused c =
    let found = c.in-Ok.ensures.found in
    inr (inr (
      c.in-Ok.start,
      c.in-Some.violation,
      refl,
      record { known = sym found.0; in_range = found.1; spelled = found.2 ∙ ap (λ n. (world n).text (rows_of c.in-Ok.start)) (sym found.0) },
      sym c.in-Some.ensures.first,
    ))
