-- Lemmas. What proves one function is beside this folder, under the function's path.
pub mod Labels
pub mod Equality
pub mod Clones
pub mod Sums
pub mod Fronts
pub mod EscapedText
pub mod LineStarts
pub mod Marks
pub mod Written
pub mod Staying
pub mod Texts
pub mod Scripts
pub mod Ties
