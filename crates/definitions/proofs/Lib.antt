pub mod Cells
pub mod Nearness
pub mod Walks
pub mod Fronts
pub mod Codes
pub mod Streams
pub mod Slots
pub mod Items
