pub mod Building
pub mod Walks
pub mod Leaves
pub mod Sets
pub mod Finding
