pub mod Content
pub mod View
pub mod Names
pub mod Meta
pub mod Usage
