-- How the code holds pieces, and what its private functions leave. This is internal.
pub mod Labels
pub mod Output
pub mod Contexts
pub mod Order
