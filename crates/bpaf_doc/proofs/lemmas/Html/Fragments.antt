-- Lemmas about the fragments of a document.
pub mod Walking
pub mod Lines
pub mod Nests
