use Rattle.std.proofs.Common.{◌<◌, ℕ, get_or, Contains}
use Rattle.coord_ledger.specs.declared.ticket.Note.{Note}
use Rattle.coord_engine.specs.Named.{all_notes, notes_of}
use Rattle.coord_engine.proofs.guarded.comparing.all_noted.Given as goal

abbrev pub invariant-loop-place : goal.invariant-loop-place
invariant-loop-place g l = (k : ℕ) → k < l.place → (d : Note) → Contains (all_notes l.shares) (get_or (notes_of l.others l.steps l.kinds) k d)
