pub mod ConstantSteps
pub mod PlainSteps
pub mod MarkSteps
