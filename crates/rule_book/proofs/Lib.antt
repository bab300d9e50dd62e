pub mod BookLaws
pub mod ByteLaws
pub mod TallyLaws
pub mod BookGrowthLaws
pub mod AnswerLaws
pub mod Edges
pub mod SheetSteps
pub mod TallySteps
pub mod CallSteps
mod Grown
mod Lent
