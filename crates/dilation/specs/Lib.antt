pub mod Dilated
pub mod Following
