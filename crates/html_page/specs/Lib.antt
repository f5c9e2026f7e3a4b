pub mod Ids
pub mod Events
pub mod Style
pub mod View
pub mod Page
pub mod Promises
pub mod Steps
pub mod Laws
