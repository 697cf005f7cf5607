-- The definitions of this crate that its proofs and the crates above it use.
pub use Rattle.coord_world.specs.protocol.NumberedWorld.{Links, World, is_lane, is_linked, lane_at, lanes_in_order, no_world, pair_cmp, pair_cmp_total, state, state_or_none, transit_or_none, view}
pub use Rattle.coord_world.specs.protocol.Acceptance.{IsFresh, accepts, against, against_command, against_data, against_receipt, has_receipted, has_sent, is_exhausted, is_full, is_unknown, judged, lane, last_number, of_incarnation, or_repeat}
pub use Rattle.coord_world.specs.protocol.InTurn.{InTurn}
pub use Rattle.coord_world.specs.protocol.Next.{fold, next, on_lane, prepared, reply, with_command, with_state, with_transition, with_transitions}
pub use Rattle.coord_world.specs.protocol.Outputs.{StepOutcome, again, again_by, all_again, all_sent, front_packet, had_front, outputs, outs, receipt, receipts, sent_by, signals}
pub use Rattle.coord_world.specs.protocol.Links.{End, Link, aborts, acks, has_ack_in_one_place, has_no_early_ready, has_one_parent_at_most, has_one_ready_at_most, has_readies_first, has_ready_for_child, has_right_distances, is_abort, is_converge, is_ready, link, one, readies}
pub use Rattle.coord_world.specs.protocol.Legal.{Legal, awaits_rightly, has_right_parent, is_distance_right, is_legal_node, is_parent_near}
pub use Rattle.coord_world.specs.protocol.Ranges.{CarryWithin, InRange, IsDistant, IsNode, LaneInRange, NodeInRange, SessionInRange, StepInRange, answers, carried, farthest}
pub use Rattle.coord_world.specs.protocol.Rows.{HasEnds, LanesCarryWithin, LinkRowFits, NodeRowFits, RowIsDistant, Rows, RowsFit, by_client, by_ends, by_id, client_row, degree, group_in, group_of, is_end, listed, node_row, rows_of}
