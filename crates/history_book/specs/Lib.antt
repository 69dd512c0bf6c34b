pub mod Rooms
pub mod Tallies
pub mod Dials
pub mod Stores
pub mod Journals
pub mod HeldBooks
pub mod Books
pub mod Insides
