-- What leads from the code to fragments and pages, in HTML and in markdown. This is internal.
pub mod View
pub mod Page
