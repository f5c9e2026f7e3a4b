-- What the calls on a tree promise. `Steps` says how the code comes to it.
pub mod Normal
pub mod Alternatives
pub mod Sequences
pub mod Shape
pub mod Misplaced
pub mod Shorts
pub mod Steps
