pub mod FirstLine
pub mod Drawing
pub mod Inputs
pub mod Writing
pub mod Pieces
pub mod Contents
pub mod Unread
