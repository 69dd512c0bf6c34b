pub mod Old
pub mod Beginnings
pub mod Resumed
pub mod Begun
pub mod Files
