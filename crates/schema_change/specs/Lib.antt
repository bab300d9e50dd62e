pub mod Answers
pub mod Places
pub mod Entries
pub mod Pairs
pub mod Fields
pub mod Schemas
