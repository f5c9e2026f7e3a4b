pub mod Choice
pub mod Faults
pub mod Rendering
pub mod Runs
pub mod Sample
