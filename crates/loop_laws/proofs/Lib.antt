mod Finds
mod Frames
mod Speakers
mod Hearing
mod Giving
mod Owns
mod Steps
mod Bytes
pub mod Given
mod Waiting
mod Handled
mod Marks
mod Counted
mod Paid
mod Dials
mod Strangers
mod Computed
pub mod Tallied
mod Redialled
mod Asked
mod Shutting
