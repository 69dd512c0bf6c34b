pub mod Failures
pub mod Steps
pub mod Played
mod Moves
mod Synced
mod Given
mod Over
mod Fronts
mod Reading
mod Left
mod Honest
mod Handed
pub mod Survived
mod Completing
pub mod PeerHolds
mod OverSockets
