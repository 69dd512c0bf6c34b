pub mod Asking
pub mod Sizes
pub mod Fetched
pub mod BegunSo
pub mod Owners
