-- The definitions of this crate that its proofs and the crates above it use.
pub use Rattle.coord_journal.specs.Contents.{bodies, content_of}
pub use Rattle.coord_journal.specs.Faults.{BeginsWithHeader, IsReadFault, RefusesOpen}
pub use Rattle.coord_journal.specs.Half.{half_number}
pub use Rattle.coord_journal.specs.Journal.{HasRoomFor, IsReady, disk_of, half_of, half_size_of, has_stopped, used_of}
pub use Rattle.coord_journal.specs.Text.{BeginsWithBody, Content, HasHeader, HasPlaceIn, IsEitherText, IsHalf, IsHalfSize, IsOpened, IsText, IsTextAt, IsTextIn, ReadsAs, formatted, gate_place, half_front, half_start, magic, size_of, sized, used_by, with_batch, without_batch}
pub use Rattle.coord_journal.specs.Turns.{TornInTurn}
pub use Rattle.coord_journal.specs.Writing.{Answers, Rewrites}
