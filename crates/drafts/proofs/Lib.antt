pub mod Edges
mod MentionSteps
mod LentSteps
mod MarkSteps
mod CheckedSteps
mod SheetSteps
mod CallSteps
mod StepSteps
