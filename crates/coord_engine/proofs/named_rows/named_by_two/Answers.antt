use Rattle.std.proofs.Common.{suc, zero, [], ◌∷◌, arith, All}
use Rattle.std.proofs.lemmas.List.Sorted.{IsPermutation-append_comm}
use Rattle.coord_ledger.specs.declared.ticket.Note.{Note}
use Rattle.coord_engine.specs.Named.{IsAscending}
use Rattle.coord_engine.specs.WorkedNames.{fourth_note, third_note}
use Rattle.coord_engine.proofs.named_rows.named_by_two.Goals as goal

alone : (n : Note) → IsAscending (n ∷ [])
alone n k d lt = absurd (omega (arith, lt))

ascending : All IsAscending ((fourth_note ∷ []) ∷ (third_note ∷ []) ∷ [])
ascending zero d lt = alone fourth_note
ascending (suc zero) d lt = alone third_note
ascending (suc (suc k)) d lt = absurd (omega (arith, lt))

pub returns : goal.returns
returns c = record { ascending = ascending; each_once = IsPermutation-append_comm (fourth_note ∷ []) (third_note ∷ []) }
