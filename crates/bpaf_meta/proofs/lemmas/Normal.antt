-- Lemmas about the normal form of a tree.
pub mod Keeps
pub mod Shaped
pub mod Plain
pub mod Twice
pub mod Marks
pub mod Parts
