pub mod Margins
pub mod Syntax
pub mod Lines
pub mod Names
pub mod Entries
pub mod Usage
pub mod Forms
pub mod Depths
