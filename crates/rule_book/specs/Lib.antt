pub mod Book
pub mod Tally
pub mod Places
pub mod BookGrowth
pub mod Tallying
pub mod Computing
