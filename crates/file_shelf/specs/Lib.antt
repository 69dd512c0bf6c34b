pub mod FileAsks
pub mod Noted
pub mod Reading
