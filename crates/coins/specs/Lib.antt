pub mod Coins
pub mod Digits
pub mod Tosses
