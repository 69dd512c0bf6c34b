pub mod Fields
pub mod Fronts
pub mod Numbers
pub mod Standing
