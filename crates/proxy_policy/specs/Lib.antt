pub mod Faults
pub mod Names
pub mod Keys
pub mod Values
pub mod Reading
pub mod Allowing
pub mod Listing
pub mod WorkedTexts
