pub mod Refusals
pub mod References
pub mod Collections
pub mod Settled
pub mod Explained
