pub mod Outcomes
pub mod Settings
pub mod Findings
pub mod Answers
pub mod Sheets
pub mod SheetLaws
pub mod Runs
