pub mod Chapters
pub mod PageAnswers
pub mod NestedPages
pub mod Headline
pub mod View
pub mod Steps
