-- Lemmas about any lists.
pub mod Counting
pub mod Passing
pub mod Opening
