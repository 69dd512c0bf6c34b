pub mod Waiting
pub mod Shown
pub mod Spheres
