pub mod Each
pub mod Clean
pub mod Blocks
pub mod Usage
pub mod Entries
pub mod Tests
pub mod Laws
pub mod Capitals
pub mod Pages
pub mod Chapters
pub mod PageLaws
mod Rows
