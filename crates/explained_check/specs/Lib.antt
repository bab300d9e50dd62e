pub mod ExplainedLaws
pub mod Runs
pub mod Saying
