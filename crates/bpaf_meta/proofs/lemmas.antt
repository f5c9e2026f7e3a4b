-- Lemmas by topic. What proves one function is beside this folder, under the function's path.
pub mod Views
pub mod Normal
pub mod Misplaced
pub mod Usage
