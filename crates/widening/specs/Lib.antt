pub mod Widening
pub mod Distinct
pub mod Decision
pub mod Differences
pub mod SheetDecision
pub mod Opening
