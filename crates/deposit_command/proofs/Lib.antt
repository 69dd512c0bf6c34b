mod Sourced
pub mod DepositHolds
mod OverStation
