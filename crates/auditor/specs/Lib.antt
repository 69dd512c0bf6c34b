pub mod Accords
pub mod Agreed
pub mod Audits
pub mod Exhibits
pub mod Played
pub mod Reading
pub mod Reports
pub mod Taking
