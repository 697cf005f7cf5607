use Rattle.std.proofs.Common.{arith, [], ◌∷◌}
use Rattle.std.proofs.lemmas.List.Sorted.{sum_by-IsPermutation}
use Rattle.coord_ledger.specs.declared.ticket.Note.{Note}
use Rattle.coord_engine.specs.Named.{all_notes, notes_of}
use Rattle.coord_engine.specs.WorkedNames.{both_kinds, first, second, third_note}
use Rattle.coord_engine.proofs.named_rows.not_one_short.Goals as goal

-- one note isn't as many as two
pub returns : goal.returns
returns c = λ is. omega (arith, sum_by-IsPermutation (λ (n : Note). 1) (all_notes ((third_note ∷ []) ∷ [])) (notes_of 2 (first ∷ second ∷ []) both_kinds) is.each_once)
