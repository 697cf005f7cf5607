pub mod Faults
pub mod Keys
pub mod Topology
pub mod Reading
pub mod WorkedTexts
pub mod Written
