pub mod Fair
pub mod Faults
pub mod Steps
pub mod Plays
pub mod Crashes
pub mod PeerLaw
