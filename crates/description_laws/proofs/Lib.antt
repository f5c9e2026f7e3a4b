pub mod Readers
pub mod Characters
pub mod Plain
pub mod ReadOnce
pub mod Words
pub mod PageTitles
pub mod Led
pub mod PageLinks
pub mod Told
pub mod Paths
pub mod CommandNames
pub mod PageIds
pub mod HtmlTexts
pub mod Written
mod Rows
