-- What leads from the code to a console page and its promise. This is internal.
pub mod Page
pub mod Text
