pub mod Places
pub mod Taken
pub mod Going
pub mod ReadOnce
pub mod Serving
pub mod Polled
pub mod Rooms
pub mod Calls
