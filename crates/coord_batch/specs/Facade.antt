-- The definitions of this crate that its proofs and the crates above it use.
pub use Rattle.coord_batch.specs.Format.{Format, byte, items_at, nothing, such_that, u64, whole}
pub use Rattle.coord_batch.specs.Decoding.{AnswersDecoded, bad_version, decoded, fault_at, is_version, or_fault}
pub use Rattle.coord_batch.specs.Fields.{at_most, client, distance, from_one_to, group, how_many, message, node}
pub use Rattle.coord_batch.specs.Steps.{batch, command, step}
pub use Rattle.coord_batch.specs.Batches.{IsBatch, StepFits, content, pair}
