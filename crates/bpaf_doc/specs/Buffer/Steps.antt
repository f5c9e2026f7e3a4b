-- How the code holds a document. This is internal.
pub mod Ends
pub mod Order
