mod Opened
mod Printed
mod Fitting
mod Meant
pub mod AccuseHolds
