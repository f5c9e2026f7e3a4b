pub mod Flags
pub mod Nested
pub mod Written
pub mod Putting
pub mod ReadBack
pub mod Usual
pub mod Values
