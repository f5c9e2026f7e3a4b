-- Manual pages: a reader of roff, and what it reads of a document. `Exact`: the page as a function. `Steps`: what leads
-- from the code to both.
pub mod Reader
pub mod Events
pub mod Page
pub mod Exact
pub mod Steps
