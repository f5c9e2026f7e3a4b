-- Lemmas by the module that they are about. What proves one function stands beside
-- this folder, under the function's path.
pub mod Lists
pub mod Snippets
pub mod Buffer
pub mod Splitter
pub mod Console
pub mod Html
pub mod Markdown
pub mod Manpage
