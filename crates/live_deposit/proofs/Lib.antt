pub mod Going
pub mod Asking
pub mod Logs
pub mod Heard
pub mod Written
pub mod Served
pub mod Settled
pub mod Polled
