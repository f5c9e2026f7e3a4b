pub mod Toml
pub mod View
