-- The model of a disk, which is all that its users see.
pub mod Model
-- The disks of this crate, and why each of them keeps the model.
pub mod Disks
