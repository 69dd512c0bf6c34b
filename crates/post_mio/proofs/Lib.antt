pub mod Bound
pub mod Told
