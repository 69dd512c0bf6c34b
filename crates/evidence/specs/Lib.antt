pub mod Judging
pub mod Text
pub mod Reading
pub mod Answers
pub mod Showing
pub mod Openings
pub mod Laws
