-- The links that are met have made each node's neighbours, and the others will.
use Rattle.std.proofs.Common.{◌≡◌, ℕ, List, drop, length}
use Rattle.coord_types.specs.NodeSet.{NodeSet, empty}
use Rattle.coord_types.specs.StepRanges.{IsNode}
use Rattle.coord_world.specs.code.Assembly.{near_in, near_with}
use Rattle.coord_tables.specs.declared.links.LinkRow.{LinkRow}
use Rattle.coord_world.proofs.rows.neighbours.Neighbours.by.Given as goal

pub record AreMet (sets : List NodeSet) (rest links : List LinkRow) : Type 0 where
  pub long : length sets ≡ 64
  pub near : (u : ℕ) → IsNode u → near_with u (near_in sets u) rest ≡ near_with u empty links

abbrev pub invariant-loop-link : goal.invariant-loop-link
invariant-loop-link l = AreMet l.sets (drop l.link-index l.links) l.links
