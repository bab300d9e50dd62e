pub mod Edges
pub mod LineSteps
pub mod PageSteps
pub mod CallSteps
mod Lent
