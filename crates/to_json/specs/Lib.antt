pub mod Parts
pub mod Lays
