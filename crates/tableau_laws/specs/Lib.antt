pub mod Places
pub mod Tableaux
pub mod Rules
pub mod Opening
pub mod Patterns
pub mod Laws
pub mod Worked
