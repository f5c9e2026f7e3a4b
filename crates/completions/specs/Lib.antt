pub mod Content
pub mod Syntax
pub mod Texts
pub mod Table
pub mod Reader
pub mod Written
pub mod Scripts
pub mod View
