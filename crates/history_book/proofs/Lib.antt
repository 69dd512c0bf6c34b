pub mod Spendings
pub mod Histories
pub mod Marks
pub mod Givings
