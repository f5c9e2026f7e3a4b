-- Item lists: what trees list, what falls where, and what is shown once.
pub mod ItemList
pub mod Keys
pub mod Falls
pub mod Groups
pub mod ListLaws
