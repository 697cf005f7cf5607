pub mod Faults
pub mod LegalWithoutFaults
pub mod Walk
