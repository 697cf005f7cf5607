mod requests
pub mod does
pub mod course
mod prints
