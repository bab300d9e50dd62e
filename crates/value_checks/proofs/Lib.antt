pub mod Going
pub mod LiteralSteps
pub mod ObservedSteps
pub mod ReferenceSteps
pub mod OperandSteps
