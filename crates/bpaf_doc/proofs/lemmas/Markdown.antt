-- Lemmas about markdown pages.
pub mod Words
pub mod Cut
pub mod Kept
pub mod Mind
pub mod Fences
pub mod Breaks
pub mod Lines
pub mod Meets
pub mod Exact
pub mod Runs
