pub mod Prefixes
mod Serving
pub mod Ends
mod Findings
pub mod Given
pub mod Kept
pub mod Fair
mod Runs
mod Computed
mod Named
mod Heard
mod Received
mod Revealed
pub mod Alike
pub mod Told
