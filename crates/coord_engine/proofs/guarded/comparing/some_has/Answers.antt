use Rattle.std.proofs.Common.{ℕ, ◌<◌, List, [], get_or, length, refl, sym, subst, arith, ◌∙◌, Contains}
use Rattle.std.proofs.lemmas.Bool.{false≢true}
use Rattle.std.proofs.lemmas.List.{get_or_default}
use Rattle.coord_ledger.specs.declared.ticket.Note.{Note}
use Rattle.coord_engine.proofs.Counting.{one_more}
use Rattle.coord_engine.proofs.Notes.{in_none, in_share}
use Rattle.coord_engine.proofs.guarded.comparing.some_has.Goals as goal

pub returns-then-has : goal.returns-then-has
returns-then-has g c =
    let here = c.notes.ensures ∙ c.share-item.is in
    let there = subst (λ l. Contains l c.args.note.now) here (c.if-has.ensures.0 refl) in
    (λ _. in_share c.args.shares.now c.args.note.now c.loop-share.share-index c.share-item.result c.loop-share-test.true there, λ _. refl)

pub loop-share-preserved : goal.loop-share-preserved
loop-share-preserved g c =
    let i = c.loop-share.share-index in
    let here = c.notes.ensures ∙ c.share-item.is in
    let P : ℕ → Type 0 = λ k. (d : List Note) → Contains (get_or c.args.shares.now k d) c.args.note.now → ⊥ in
    let last : P i = λ d there. false≢true (c.if-has.ensures.1 (rw (sym (get_or_default c.args.shares.now i d c.share-item.result c.loop-share-test.true ∙ sym here)) there)) in
    one_more P i c.loop-share.invariant last

pub returns : goal.returns
returns g c =
    let none : (k : ℕ) → k < length c.args.shares.now → Contains (get_or c.args.shares.now k []) c.args.note.now → ⊥ = λ k lt. c.loop-share.invariant k (omega (arith, lt, c.loop-share-test.false)) [] in
    (λ t. absurd (false≢true t), λ there. absurd (in_none c.args.shares.now c.args.note.now [] none there))
