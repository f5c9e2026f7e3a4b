pub mod Lists
pub mod Runs
pub mod Faults
pub mod Refused
pub mod Plain
