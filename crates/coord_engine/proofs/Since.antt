-- What is left of an engine against the ledger that it was made over.
use Rattle.std.proofs.Common.{◌≡◌, ℕ, ◌+◌, List, drop, length, take, arith}
use Rattle.coord_types.specs.declared.steps.Step.{Step}
use Rattle.coord_world.specs.protocol.NumberedWorld.{World}
use Rattle.coord_ledger.specs.declared.ticket.Note.{Note}
use Rattle.coord_ledger.specs.machine.Log.{Log, kinds_of}
use Rattle.coord_engine.specs.Facade.{IsNamed, IsSince}

pub since : (base : World) (before : List Step) (shares : List (List Note)) (log : Log) (start : ℕ) (left : World) (trail : List Step)
    → log.base ≡ base → start ≡ length before → take start log.trail ≡ before → IsNamed shares (log.base.count + start) (drop start log.trail) (drop start (kinds_of log.base log.trail)) → left ≡ log.base → trail ≡ log.trail → IsSince base before shares left trail
since base before shares log start left trail same_base at begins named is_left is_trail = grind arith
