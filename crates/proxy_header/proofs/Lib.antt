pub mod Scans
pub mod Clients
pub mod Lengths
