-- Lemmas of pages.
pub mod EnvEntries
pub mod EnvLaws
pub mod GroupSteps
pub mod Leaving
pub mod NestedPages
pub mod PageSteps
pub mod Repeating
