use Rattle.std.proofs.Common.{sym, ap, subst}
use Rattle.coord_journal.specs.Text.{without_batch}
use Rattle.coord_world.specs.protocol.NumberedWorld.{World}
use Rattle.coord_store.specs.Recovered.{Gives}
use Rattle.coord_store.proofs.Holding.{snapshot_gives}
use Rattle.coord_store.proofs.creation.first_snapshot.Goals as goal

pub returns-in-Ok-clause-gives : goal.returns-in-Ok-clause-gives
returns-in-Ok-clause-gives c =
    let bytes = c.in-Ok.snapshot.items in
    let P : World → Type 0 = λ w. Gives (without_batch c.args.version bytes) w in
    subst P c.empty-world.ensures.value
    (snapshot_gives c.args.version bytes c.empty-world.result (sym (ap (λ (w : World). w.version) c.empty-world.ensures.value)) c.lemma_in_range.ensures c.empty-world.ensures.legal c.in-Ok.ensures.spelled)
