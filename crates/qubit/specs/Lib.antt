pub mod OneQubit
pub mod ValuesLemmas
pub mod Letters
