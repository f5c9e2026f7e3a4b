pub mod Names
pub mod View
pub mod Notes
pub mod Help
pub mod Differences
pub mod Steps
pub mod Level
pub mod Texts
