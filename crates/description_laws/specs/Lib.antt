pub mod HtmlPages
pub mod Plain
pub mod ReadOnce
pub mod Written
