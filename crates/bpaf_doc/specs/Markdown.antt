-- Markdown pages: what is promised of one. `Exact`: the page as a function. `Steps`: what leads from the code to both.
pub mod Page
pub mod Exact
pub mod Steps
