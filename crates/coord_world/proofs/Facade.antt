-- What the crates above may cite of these proofs. All other files of lemmas are private.
pub use Rattle.coord_world.proofs.listings.RowsOfWorldFit.{rows_have_few_aborts, rows_of_world_fit, rows_give_world}
pub use Rattle.coord_tables.proofs.KeyedLists.{all_weaker}
pub use Rattle.coord_tables.proofs.LinkLanes.{lane-apart, lane-mirrored}
pub use Rattle.coord_tables.proofs.SortedEntries.{is_less}
pub use Rattle.coord_world.proofs.legal.EmptyWorld.{no_lane, no_world_in_range, no_world_legal}
pub use Rattle.coord_world.proofs.Acceptance.{fresh_count, itself, fresh_number, fresh_order, verdict_fresh, verdict_kind}
pub use Rattle.coord_tables.proofs.Cases.{both, by_test, same_or_apart, some_value}
pub use Rattle.coord_world.proofs.release.KeptReplies.{kept_reply_law}
pub use Rattle.coord_world.proofs.release.ReleaseStays.{released_from_base, released_grows, fresh_where_released, release_stays}
pub use Rattle.coord_world.proofs.release.ReleaseLaw.{release_law, resend_law}
pub use Rattle.coord_world.proofs.waves.Running.{fold-append}
pub use Rattle.coord_world.proofs.release.Between.{bound_between, bound_with_drops}
pub use Rattle.coord_world.proofs.release.Trails.{EachFresh, fold-take_drop, fold_counts, trail_each_fresh, trail_goes_on, trail_is_cut, trail_keeps_worlds, trail_of}
pub use Rattle.coord_world.proofs.waves.SignalsOf.{signals_first, signals_given}
pub use Rattle.coord_world.proofs.legal.Versions.{raised_is_legal}
pub use Rattle.coord_world.proofs.ranges.Distances.{carried_within, farthest_le, same_version}
