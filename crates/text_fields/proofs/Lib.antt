pub mod Digits
pub mod HexFields
pub mod Fields
pub mod ChoiceTexts
pub mod Faults
pub mod Plain
