pub mod Blocks
pub mod Replies
pub mod Spelling
