pub mod Faults
pub mod Cases
pub mod Names
pub mod Bits
pub mod Letters
pub mod Labels
pub mod Rows
pub mod Gates
