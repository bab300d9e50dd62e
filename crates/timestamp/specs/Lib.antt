pub mod Instant
pub mod Parses
pub mod Order
