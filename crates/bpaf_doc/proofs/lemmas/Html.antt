-- Lemmas about HTML pages. `Fragments`: what HTML and markdown are made of.
pub mod Words
pub mod Fragments
pub mod Spelled
pub mod SpelledText
pub mod Cut
pub mod Text
pub mod Breaks
pub mod Nests
pub mod Meets
pub mod Exact
pub mod Runs
