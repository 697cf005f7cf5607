use Rattle.std.proofs.Common.{◌+◌, ℕ, ◌<◌, get_or, length, refl, sym, subst, arith, Contains}
use Rattle.std.proofs.lemmas.Bool.{false≢true}
use Rattle.coord_ledger.specs.declared.ticket.Note.{Note}
use Rattle.coord_engine.specs.Named.{all_notes, notes_of}
use Rattle.coord_engine.proofs.Counting.{one_more}
use Rattle.coord_engine.proofs.Naming.{length-notes}
use Rattle.coord_engine.proofs.Notes.{note_here}
use Rattle.coord_engine.proofs.guarded.comparing.all_noted.Goals as goal

pub returns-then-not-some_has : goal.returns-then-not-some_has
returns-then-not-some_has g c =
    let i = c.loop-place.place in
    let item = c.index-steps-place.result in
    let sort = c.kind_at-kind.result in
    let note : Note = record { step = c.args.others + i + 1; what = item; kind = sort } in
    let here = note_here c.args.others i c.args.steps.now c.args.kinds.now item sort note c.requires.all c.loop-place-test.true c.index-steps-place.is c.kind_at-kind.ensures in
    let within : i < length (notes_of c.args.others c.args.steps.now c.args.kinds.now) = omega (arith, c.loop-place-test.true, length-notes c.args.others c.args.steps.now c.args.kinds.now c.requires.all) in
    (λ t. absurd (false≢true t), λ all. c.if-not-some_has.ensures.1 (subst (Contains (all_notes c.args.shares.now)) here (all i note within)))

pub loop-place-preserved : goal.loop-place-preserved
loop-place-preserved g c =
    let i = c.loop-place.place in
    let P : ℕ → Type 0 = λ k. (d : Note) → Contains (all_notes c.args.shares.now) (get_or (notes_of c.args.others c.args.steps.now c.args.kinds.now) k d) in
    let here = λ (d : Note). note_here c.args.others i c.args.steps.now c.args.kinds.now c.index-steps-place.result c.kind_at-kind.result d c.requires.all c.loop-place-test.true c.index-steps-place.is c.kind_at-kind.ensures in
    let last : P i = λ d. subst (Contains (all_notes c.args.shares.now)) (sym (here d)) (c.if-not-some_has.ensures.0 refl) in
    one_more P i c.loop-place.invariant last

pub returns : goal.returns
returns g c = (λ _ k d lt. c.loop-place.invariant k (omega (arith, lt, length-notes c.args.others c.args.steps.now c.args.kinds.now c.requires.all, c.loop-place-test.false)) d, λ _. refl)
