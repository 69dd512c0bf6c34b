pub mod Hits
pub mod Lockstep
pub mod Playing
pub mod Bounds
pub mod Laws
