pub mod Bytes
pub mod Sheet
pub mod Slugs
pub mod Reader
pub mod Kept
pub mod Exact
pub mod Promises
pub mod Steps
