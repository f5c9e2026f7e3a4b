-- Lemmas about what is written into a document.
pub mod Written
pub mod Nested
