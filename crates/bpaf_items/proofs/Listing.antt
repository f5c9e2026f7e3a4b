-- Lemmas of item lists.
pub mod Blocks
pub mod Headings
pub mod KeyLaws
pub mod Numbers
pub mod PairedGroups
pub mod Placing
pub mod Pushes
pub mod Shown
pub mod Somewhere
pub mod TakenOut
