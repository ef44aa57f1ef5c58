mod Begun
pub mod Playing
mod Printing
