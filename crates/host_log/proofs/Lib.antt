pub mod Appended
pub mod Told
pub mod Unseen
