pub mod CallLaws
pub mod OpenedLaws
pub mod FewestCallLaws
pub mod ListLaws
mod Edges
pub mod RoundSteps
pub mod ListSteps
pub mod SearchSteps
pub mod CallSteps
mod Lent
