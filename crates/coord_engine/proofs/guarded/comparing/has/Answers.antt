use Rattle.std.proofs.Common.{◌≡◌, ◌↔◌, Ok, Err, get_or, rules, sym, ◌∙◌, Contains}
use Rattle.std.proofs.lemmas.Bool.{false≢true}
use Rattle.std.proofs.lemmas.List.{get_or_default}
use Rattle.std.proofs.lemmas.List.Sorted.{answers_always}
use Rattle.coord_engine.proofs.Notes.{searched}
use Rattle.coord_engine.proofs.guarded.comparing.has.Goals as goal

pub returns-in-Ok : goal.returns-in-Ok
returns-in-Ok c =
    let notes = c.args.notes.now in
    let note = c.args.note.now in
    let by_number = c.in-Ok.ensures.position (λ n. n.step) (answers_always _ _ _ (λ f a r g called. search rules)) in
    let is : (get_or notes c.in-Ok.at note ≡ note) ↔ Contains notes note = searched notes c.requires note (Ok c.in-Ok.at) c.in-Ok.ensures.bound by_number in
    let here : c.index-notes-at.result ≡ get_or notes c.in-Ok.at note = c.index-notes-at.is ∙ get_or_default notes c.in-Ok.at c.index-notes-at.result note c.in-Ok.ensures.bound in
    (λ t. is.0 (sym here ∙ c.is_same.ensures.0 t), λ there. c.is_same.ensures.1 (here ∙ is.1 there))

pub returns-in-Err : goal.returns-in-Err
returns-in-Err c =
    let by_number = c.in-Err.ensures.position (λ n. n.step) (answers_always _ _ _ (λ f a r g called. search rules)) in
    let is : Contains c.args.notes.now c.args.note.now → ⊥ = searched c.args.notes.now c.requires c.args.note.now (Err c.in-Err.field-0) c.in-Err.ensures.bound by_number in
    (λ t. absurd (false≢true t), λ there. absurd (is there))
