pub mod Call
pub mod Rounds
pub mod Runs
pub mod FewestCalls
pub mod Computing
