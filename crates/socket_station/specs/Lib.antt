pub mod Items
pub mod Moved
pub mod Standings
pub mod Faults
pub mod Withins
pub mod Noted
pub mod Laws
