-- Documents, the calls that write them, and what these promise. `Steps`: how the code holds a document.
pub mod Parts
pub mod View
pub mod Writes
pub mod Growth
pub mod FirstLine
pub mod Equality
pub mod Steps
