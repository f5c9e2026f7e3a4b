-- Lemmas about console pages. `Layout`: a page that keeps the rules is a layout. `Sheet`: the page that the code
-- makes is the exact one, and keeps the rules.
pub mod Words
pub mod Hiding
pub mod Ink
pub mod InFull
pub mod Pages
pub mod Places
pub mod Margins
pub mod Pairs
pub mod Tabs
pub mod Layout
pub mod Sheet
pub mod Runs
pub mod Blanks
pub mod Code
pub mod Ends
