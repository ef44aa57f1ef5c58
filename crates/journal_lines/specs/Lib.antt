pub mod Lawful
pub mod Lines
pub mod Parts
pub mod Entries
