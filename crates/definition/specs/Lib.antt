pub mod Tree
pub mod Limits
pub mod Decode
pub mod Write
pub mod Within
pub mod Computing
