pub mod Bytes
pub mod Pieces
pub mod Equality
pub mod Escaping
pub mod Roff
pub mod Steps
