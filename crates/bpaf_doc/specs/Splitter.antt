-- The chunks of a text. `Steps`: how the code cuts them.
pub mod Chunks
pub mod View
pub mod Promises
pub mod Steps
