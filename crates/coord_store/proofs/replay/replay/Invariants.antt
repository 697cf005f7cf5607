use Rattle.std.proofs.Common.{take}
use Rattle.coord_journal.specs.Contents.{bodies}
use Rattle.coord_world.specs.protocol.Legal.{Legal}
use Rattle.coord_store.specs.Recovered.{Replays}
use Rattle.coord_store.proofs.replay.replay.Given as goal

abbrev pub invariant-loop-number : goal.invariant-loop-number
invariant-loop-number l = Legal l.world × Replays l.initial.world (bodies (take l.number l.batches)) l.world
