mod QuotaLaws
pub mod Reading
mod OneLine
pub mod Values
mod Shown
mod Due
mod Earliest
mod Given
