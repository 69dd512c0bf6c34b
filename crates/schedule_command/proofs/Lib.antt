pub mod Readings
pub mod Named
pub mod Answered
pub mod Opened
pub mod Commanded
pub mod ScheduleHolds
mod Scheduled
