pub mod States
pub mod Beginning
pub mod Going
pub mod Reading
pub mod Serving
pub mod Polling
pub mod Progress
pub mod Reports
