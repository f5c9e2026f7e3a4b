pub mod Alone
pub mod Bars
pub mod Items
pub mod Lists
pub mod Prefixed
pub mod Rows
