-- The spelling of a request is read as that request.
pub mod Spelled
pub mod Formats
