pub mod Lists
pub mod Hindering
pub mod Sights
pub mod ForPeers
