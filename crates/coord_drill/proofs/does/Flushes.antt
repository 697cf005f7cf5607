-- A flush.
use Rattle.std.proofs.Common.{◌≡◌, List, ℕ, [], ◌++◌, refl, arith}
use Rattle.coord_disk.specs.Model.DiskModel.{DiskModel}
use Rattle.coord_ledger.specs.machine.Log.{settled_world}
use Rattle.coord_drill.specs.Answered.{asked_lines}
use Rattle.coord_drill.specs.Drill.{after_asked}
use Rattle.coord_drill.specs.declared.asked.Asked.TheVariants.{Flush}
use Rattle.coord_drill.specs.Facade.{Begins, Carries, Drill, Flies, count_line, state_of}
use Rattle.coord_drill.proofs.does.Moments.{carries}

module _ {D : Type 0} (disk : DiskModel D) (crashes : D → D → Type 0) (d new : Drill D) (reported : List ℕ) (flown : Flies disk crashes d reported new) where
  flushed : state_of new ≡ after_asked (state_of d) Flush flown.given
  unfolding after_asked
  flushed = flown.goes_on []

  flush_line : reported ++ count_line (settled_world (state_of new).log).count ≡ asked_lines (state_of d) Flush flown.given
  unfolding asked_lines
  flush_line = grind (arith, flushed)

  pub flushes : Begins d.driver → Carries disk crashes d Flush (reported ++ count_line (settled_world (state_of new).log).count) new
  flushes begins = carries disk crashes d new Flush flown.given (reported ++ count_line (settled_world (state_of new).log).count) refl begins flown.moments flown.with_memory flush_line flushed
