pub mod Lists
pub mod Turned
pub mod Standing
pub mod Owned
pub mod Kept
pub mod Heeding
