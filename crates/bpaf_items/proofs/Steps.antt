-- Lemmas about the definitions that lead from the code to its promises.
pub mod Fronts
pub mod Given
pub mod Kept
