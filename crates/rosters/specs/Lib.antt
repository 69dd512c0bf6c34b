pub mod Addrs
pub mod Rosters
pub mod Fields
pub mod Text
pub mod Reading
pub mod LoggerText
pub mod WatchText
pub mod Laws
