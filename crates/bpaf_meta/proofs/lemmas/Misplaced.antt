-- Lemmas about the positional check.
pub mod Late
pub mod Among
pub mod Found
pub mod Lines
