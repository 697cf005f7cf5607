use Rattle.std.proofs.Common.{◌<◌, ℕ, List, get_or, Contains}
use Rattle.coord_ledger.specs.declared.ticket.Note.{Note}
use Rattle.coord_engine.proofs.guarded.comparing.some_has.Given as goal

abbrev pub invariant-loop-share : goal.invariant-loop-share
invariant-loop-share g l = (k : ℕ) → k < l.share-index → (d : List Note) → Contains (get_or l.shares k d) l.note → ⊥
