pub mod Listed
pub mod Fields
pub mod Descriptions
pub mod Steps
pub mod View
