-- A console page as the code makes it: it is the exact page, and grows by the rules of the console.
pub mod Grows
pub mod Exact
pub mod Whole
