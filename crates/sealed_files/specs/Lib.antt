pub mod SealedFrames
pub mod Beginnings
pub mod Laws
