-- The lines that the commands print for a store, each with a line feed.
use Rattle.std.specs.Prelude.{ℕ, List, ◌++◌, codes, decimal}
use Rattle.coord_check.specs.Names.{violation_text}
use Rattle.coord_check.specs.declared.violation.Violation.{Violation}
use Rattle.coord_view.specs.Printed.{view_lines}
use Rattle.coord_view.specs.Shown.{shown as view_of}
use Rattle.coord_world.specs.protocol.NumberedWorld.{World}

-- the line for a new store, with its number of steps
abbrev pub created_line : ℕ → List ℕ
created_line count = codes "created " ++ (decimal count ++ codes "\n")

-- the line for a migrated store, with its number of steps
abbrev pub migrated_line : ℕ → List ℕ
migrated_line count = codes "migrated " ++ (decimal count ++ codes "\n")

-- the line for a legal store, with its number of steps
abbrev pub legal_line : ℕ → List ℕ
legal_line count = codes "legal " ++ (decimal count ++ codes "\n")

abbrev pub violated_line : Violation → List ℕ
violated_line violation = codes "violated " ++ (violation_text violation ++ codes "\n")

-- the lines that show the world of a store, as a drill shows its settled world; while a store is not being
-- served, all its accepted steps are settled
abbrev pub shown : World → List ℕ
shown w = view_lines (view_of w.count w)
