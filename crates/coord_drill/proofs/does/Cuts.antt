-- A request is cut short.
use Rattle.std.proofs.Common.{◌≡◌, false, Some, refl, arith}
use Rattle.coord_disk.specs.Model.DiskModel.{DiskModel}
use Rattle.coord_ledger.specs.Facade.{disk_held}
use Rattle.coord_drill.specs.Drill.{line_events}
use Rattle.coord_drill.specs.Facade.{Asked, Cuts, CutsIf, Drill, Fault, IsOfMemory, LacksMemory}
use Rattle.coord_drill.proofs.does.Moments.{Survive, is_version, none_led}

module _ {D : Type 0} (disk : DiskModel D) (crashes : D → D → Type 0) where
  -- a part of its events was answered
  pub cuts_part : (d : Drill D) (a : Asked) (refused : Fault × D) → is_version a ≡ false → LacksMemory disk crashes a d refused → Cuts disk crashes a d refused
  cuts_part d a refused h1 h2 = grind arith

  -- none was
  pub cut_before : (d : Drill D) (a : Asked) (refused : Fault × D) → is_version a ≡ false → IsOfMemory refused.0 → Survive disk crashes d.driver → disk_held d.driver ≡ Some refused.1 → CutsIf disk crashes a d refused
  cut_before d a refused other memory survives there promised = cuts_part d a refused other (memory, none_led disk crashes d.driver d.driver (line_events d.holds a) refused.1 survives refl there)
