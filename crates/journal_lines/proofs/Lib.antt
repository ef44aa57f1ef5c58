mod Coins
mod Labels
mod Measured
mod Events
mod Entries
mod Apart
pub mod Lengths
