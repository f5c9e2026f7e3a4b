-- Lemmas about the chunks of a text.
pub mod Words
pub mod Spelling
pub mod FirstChunk
pub mod Cuts
pub mod Pieces
pub mod Facts
pub mod Ink
pub mod Printable
pub mod CodeLines
pub mod Letters
pub mod Runs
pub mod Widths
