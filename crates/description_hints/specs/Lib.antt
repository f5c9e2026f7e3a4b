pub mod Content
pub mod View
pub mod Sites
pub mod Texts
pub mod Names
pub mod Pages
pub mod Hints
pub mod Steps
