pub mod Lines
pub mod Views
pub mod After
pub mod Rules
pub mod Histories
pub mod Laws
