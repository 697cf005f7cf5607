pub mod Worlds
pub mod Sizes
pub mod ByNumber
pub mod Laws
