-- Documents, chunks and pages.
mod Buffer
mod Splitter
mod Console
mod ConsoleRefused
mod Fragments
mod Html
mod HtmlPages
mod Snippets
mod HtmlExamples
mod MarkdownPages
mod MarkdownExamples
mod Manpage
mod ManpagePieces
mod ManpageReading
