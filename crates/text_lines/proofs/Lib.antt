pub mod FirstLine
pub mod Forms
pub mod Joined
pub mod Steps
pub mod Answers
pub mod Printed
