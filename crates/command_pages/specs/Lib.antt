pub mod Pages
pub mod Html
pub mod Readings
pub mod View
