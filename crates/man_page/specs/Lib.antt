pub mod Sheet
pub mod Reader
pub mod Kept
pub mod View
pub mod Exact
pub mod Steps
pub mod Promises
