-- Lemmas about manual pages and their reader.
pub mod Words
pub mod Program
pub mod OneReading
pub mod ReadBack
pub mod PageRead
pub mod LookingBack
pub mod Drafts
