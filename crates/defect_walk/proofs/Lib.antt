mod ChildSteps
mod ScopeSteps
pub mod TellingLaws
mod CollectionLaws
