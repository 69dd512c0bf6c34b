pub mod Unasked
pub mod Laws
