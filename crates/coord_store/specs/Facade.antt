-- The definitions of this crate that its proofs and the crates above it use.
pub use Rattle.coord_store.specs.Faults.{commit_fault_of, store_fault_of}
pub use Rattle.coord_store.specs.Halves.{HasHalves, KeepsHalves}
pub use Rattle.coord_store.specs.Kept.{GivesEither, GivesKept, Holds, ImagesGive, IsJustMade, IsKept, IsOnlyWorld, Kept, has_stopped}
pub use Rattle.coord_store.specs.Recovered.{AllFresh, Gives, HasSnapshot, IsBody, Recovered, Replays, Takes}
pub use Rattle.coord_store.specs.GivenOut.{has_given_out, how_many_out}
pub use Rattle.coord_store.specs.Refused.{IsCreateFault, IsOpenFault, IsPassing, RefusesBatch, RefusesBatches, RefusesContent, RefusesCreate, RefusesOpen, RefusesReplay, RefusesSnapshot, RefusesText, StopsAt}
pub use Rattle.coord_store.specs.Migrating.{IsQuiet, RefusesMigration, risen}
pub use Rattle.coord_store.specs.Writing.{Concludes, Ends, Follows, Stays, with_world}
pub use Rattle.coord_store.specs.Changing.{Changes, Commits, FitsIn}
