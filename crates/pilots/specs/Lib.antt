pub mod Draws
pub mod Choices
pub mod Plans
pub mod Scripts
pub mod Laws
