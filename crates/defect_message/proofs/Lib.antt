pub mod LayingLaws
pub mod RefusalLaws
pub mod ReferenceLaws
pub mod CollectionSteps
pub mod PlacedLaws
pub mod IndexLaws
pub mod SettledSteps
pub mod ExplainedSteps
