-- Help pages: what each writes, and what the call returns.
pub mod EnvTexts
pub mod EntryWrites
pub mod HelpPage
pub mod NestedTexts
pub mod PageAnswers
pub mod Steps
