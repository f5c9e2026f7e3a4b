-- What is written of an item or a tree into a document.
pub mod Writes
pub mod Nested
