-- What the private functions that write pages say. This is internal.
pub mod Groups
pub mod Pages
pub mod Pieces
pub mod Repeats
