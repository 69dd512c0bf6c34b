pub mod Digests
pub mod Parts
pub mod Heights
pub mod Trees
pub mod Paths
pub mod Roots
pub mod Departed
