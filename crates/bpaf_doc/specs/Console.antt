-- Console pages: what is promised of one. `Exact`: the page as a function; that the promises are theorems about it is
-- in `specs/Laws`. `Ink`: the ink of a page in full. `Steps`: what leads from the code to all of these.
pub mod Margin
pub mod Layout
pub mod Exact
pub mod Ink
pub mod Steps
