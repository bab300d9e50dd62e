pub mod Batches
pub mod Blocks
pub mod Compared
pub mod Places
pub mod Quantified
pub mod RuleAt
