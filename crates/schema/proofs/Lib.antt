mod Slots
mod FieldSteps
mod MemberSteps
mod Names
mod SchemaSteps
mod Halving
mod Parts
