pub mod Content
pub mod View
pub mod Hints
pub mod Words
pub mod Calls
pub mod Values
