-- Lemmas about documents.
pub mod Words
pub mod Ends
pub mod RollBack
pub mod Growing
pub mod Nesting
pub mod Lines
pub mod Equality
