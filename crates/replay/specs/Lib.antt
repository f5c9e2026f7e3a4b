pub mod Encoding
pub mod Replay
pub mod Steps
