pub mod AccuseWords
pub mod Opened
pub mod Accuse
pub mod Due
pub mod Printing
pub mod Told
pub mod AccuseLaw
