mod NextKeys
pub mod Siblings
pub mod Scalars
pub mod Held
pub mod Naming
pub mod Turns
pub mod Moving
pub mod Asking
pub mod Comparing
pub mod Operands
pub mod Conditions
pub mod LongTexts
pub mod RuleTexts
pub mod RuleMembers
pub mod Quantifying
