pub mod Places
pub mod Journals
pub mod Words
pub mod Explained
