mod DepthSteps
mod OperandLaws
mod BodySteps
mod QuantifierSteps
mod RuleSteps
