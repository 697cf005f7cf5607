use Rattle.std.proofs.Common.{◌<◌, ℕ, List, get_or}
use Rattle.coord_ledger.specs.declared.ticket.Note.{Note}
use Rattle.coord_engine.specs.Named.{IsAscending}
use Rattle.coord_engine.proofs.guarded.comparing.all_ascending.Given as goal

abbrev pub invariant-loop-share : goal.invariant-loop-share
invariant-loop-share g l = (k : ℕ) (d : List Note) → k < l.share-index → IsAscending (get_or l.shares k d)
