pub mod Files
pub mod Logs
pub mod Telling
