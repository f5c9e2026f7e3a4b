pub mod Syntax
pub mod Described
pub mod Faults
