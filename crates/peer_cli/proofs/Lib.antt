pub mod InMemory
pub mod Splitting
