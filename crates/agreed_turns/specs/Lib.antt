pub mod Accords
pub mod Agreed
pub mod Heads
pub mod States
