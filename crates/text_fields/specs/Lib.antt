pub mod Numbers
pub mod Cells
pub mod Hexes
pub mod Spelling
pub mod Choices
pub mod Kinds
pub mod Faults
pub mod Laws
