pub mod Words
pub mod Opened
pub mod Deposits
pub mod Gives
pub mod DepositLaw
