mod Words
pub mod Names
mod Ranges
mod Reached
mod ValueSteps
mod ConditionSteps
mod RuleSteps
