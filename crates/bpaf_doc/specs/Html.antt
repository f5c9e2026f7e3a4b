-- HTML pages, and the fragments that markdown is made of too: what is promised. `Exact`: the page as a function; that
-- the promises are theorems about it is in `specs/Laws`. `Steps`: what leads from the code to both.
pub mod Fragments
pub mod Page
pub mod Exact
pub mod Steps
