pub mod Listing
pub mod Page
pub mod View
pub mod Steps
pub mod Words
