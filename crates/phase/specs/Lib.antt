pub mod Sheets
pub mod LabelCases
pub mod Effects
pub mod Answers
