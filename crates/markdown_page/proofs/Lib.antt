pub mod Bools
pub mod Loops
pub mod Runs
pub mod Links
pub mod Slugs
pub mod Fronted
pub mod Parts
pub mod Escapes
pub mod Texts
pub mod Spans
pub mod Pieces
pub mod Fronts
pub mod Lines
pub mod Blocks
pub mod Pages
mod Rows
