pub mod Looks
pub mod Shapes
pub mod Above
pub mod Rules
pub mod Blocks
pub mod Steps
pub mod Laws
