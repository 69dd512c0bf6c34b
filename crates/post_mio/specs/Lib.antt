pub mod Mails
pub mod Posts
pub mod Telling
