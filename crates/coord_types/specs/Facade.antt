-- The definitions of this crate that its proofs and the crates above it use.
pub use Rattle.coord_types.specs.Command.{same_command}
pub use Rattle.coord_types.specs.Table.{Table, change, code, entries, get, has}
pub use Rattle.coord_types.specs.NodeSet.{NodeSet, contains}
pub use Rattle.coord_types.specs.NodeMask.{IsMaskable, mask_of, nodes_of}
pub use Rattle.coord_types.specs.Messages.{begins_with, after_front, carried, is_nil, same_msg}
pub use Rattle.coord_types.specs.NodeState.{NodeState, mode_from, mode_number, new_node, no_node, state_code}
pub use Rattle.coord_types.specs.StepRanges.{CommandInRange, IsNode}
pub use Rattle.coord_types.specs.IdealWorld.{Ideal}
pub use Rattle.coord_types.specs.Numbers.{numbers}
