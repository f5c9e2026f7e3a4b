-- How the code goes through a tree. This is internal.
pub mod Forms
pub mod Passes
pub mod Walk
