pub mod Boundaries
mod Cuts
mod Ends
mod Runs
pub mod Stands
pub mod Texts
mod Values
