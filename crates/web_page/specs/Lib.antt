pub mod Tree
pub mod Reader
pub mod Models
pub mod Calls
pub mod Exact
pub mod Steps
