pub mod TextsCut
pub mod TextsInside
pub mod Texts
pub mod TextsView
