use Rattle.std.proofs.Common.{[], ◌∷◌, arith, refl, Contains}
use Rattle.std.proofs.lemmas.List.Sorted.{Contains-permutation}
use Rattle.coord_types.specs.declared.steps.Kind.TheVariants.{Joined, Started}
use Rattle.coord_ledger.specs.declared.ticket.Note.{Note}
use Rattle.coord_engine.specs.Named.{all_notes, notes_of}
use Rattle.coord_engine.specs.WorkedNames.{first, third_note}
use Rattle.coord_engine.proofs.named_rows.not_of_another_kind.Goals as goal

-- the note stands among those of the steps, so at the only place
pub returns : goal.returns
returns c = λ is.
    let noted : Note = record third_note { kind = Joined } in
    let there : Contains (notes_of 2 (first ∷ []) (Started ∷ [])) noted = Contains-permutation (all_notes ((noted ∷ []) ∷ [])) (notes_of 2 (first ∷ []) (Started ∷ [])) noted is.each_once (0, omega arith, refl) in
    grind (arith, there)
