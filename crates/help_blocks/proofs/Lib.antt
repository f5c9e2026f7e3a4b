pub mod Read
pub mod Deeper
pub mod Whole
mod Titles
mod Usages
