pub mod Content
pub mod View
pub mod Permitted
pub mod Faults
pub mod Steps
