pub mod Texts
pub mod Lines
pub mod Blocks
pub mod Entries
pub mod Usage
pub mod Page
pub mod Steps
pub mod Promises
