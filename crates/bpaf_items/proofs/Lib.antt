pub mod Listing
pub mod Page
pub mod Steps
pub mod Words
