pub mod Bytes
pub mod Pieces
pub mod Words
pub mod Fronts
pub mod Usages
pub mod View
pub mod Lines
pub mod Laws
