pub mod Blocks
pub mod Merged
pub mod Sorted
pub mod Levels
pub mod Noted
pub mod Written
