mod Edges
pub mod Kept
mod Entered
mod Sheets
pub mod Bytes
mod FieldSteps
mod HeadSteps
