-- The definitions of this crate that its proofs and the crates above it use.
pub use Rattle.coord_node.specs.Rules.{Transition, acknowledged, answer, carries, finish, idle, is_empty, is_parent, kept, lost, lost_in, on_abort, on_abort_in, on_ack, on_ready, on_ready_in, request, request_in, sends_of, transition, wave_back, wave_on, with_neighbour, without, without_parent}
pub use Rattle.coord_node.specs.Steps.{kind, kind_of_request, kind_ordered, transitions, transitions_ordered}
pub use Rattle.coord_node.specs.IdealRules.{added, headed, ideal_applied, ideal_next, is_link, linked_up, set_state, without_link}
