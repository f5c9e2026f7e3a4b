-- How the code holds a page. Internal: no promise cites it.
pub mod Bytes
pub mod Open
pub mod Pieces
pub mod Stored
