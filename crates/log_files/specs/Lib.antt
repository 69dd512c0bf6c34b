pub mod Logs
pub mod Pieces
pub mod Taken
pub mod Several
pub mod Audited
pub mod Laws
