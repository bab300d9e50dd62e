pub mod ItemLaws
pub mod HeadLaws
pub mod OperatorLaws
pub mod RuleHeadLaws
pub mod Chains
pub mod Heads
pub mod Leaves
pub mod Plain
pub mod Known
pub mod Sizes
mod Tables
