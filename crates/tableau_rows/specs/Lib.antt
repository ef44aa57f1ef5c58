pub mod Held
pub mod Parts
pub mod Openings
pub mod Readers
