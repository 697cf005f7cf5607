use Rattle.std.proofs.Common.{ℕ, ◌+◌, List, [], ⊎_elim, inl, inr, sym, subst, take}
use Rattle.std.specs.Borrow.{Bor}
use Rattle.coord_journal.specs.Contents.{bodies}
use Rattle.coord_world.specs.protocol.NumberedWorld.{World}
use Rattle.coord_store.specs.Recovered.{Replays}
use Rattle.coord_store.proofs.Freshness.{refused_here, replays_on}
use Rattle.coord_store.proofs.replay.replay.Goals as goal

-- what a read of a batch that is not there would give
abbrev none : Bor (List ℕ)
none = record { ref_ptr = (0, 0); now = [] }

pub returns-in-Err-clause-refused : goal.returns-in-Err-clause-refused
returns-in-Err-clause-refused c =
    ⊎_elim (λ e. inl e) (λ r. inr (refused_here c.args.batches.now c.loop-number.number none c.loop-number-test.true c.args.start c.loop-number.world c.loop-number.invariant.1 c.in-Err.fault r)) c.in-Err.ensures.refused

pub loop-number-preserved : goal.loop-number-preserved
loop-number-preserved c =
    let taken = c.in-Ok.ensures.taken in
    let P : World → Type 0 = λ x. Replays c.args.start (bodies (take (c.loop-number.number + 1) c.args.batches.now)) x in
    (c.replay_batch.ensures.legal, subst P (sym taken.2) (replays_on c.args.batches.now c.loop-number.number none c.loop-number-test.true c.args.start c.loop-number.world c.loop-number.invariant.1 taken.0 taken.1))
