pub mod OpenGround
pub mod WindowBits
pub mod Reaching
