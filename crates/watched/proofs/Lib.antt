pub mod Fronts
mod Stops
mod Texts
