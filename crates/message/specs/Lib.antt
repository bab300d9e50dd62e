pub mod Words
pub mod Tell
pub mod Message
pub mod Standing
pub mod Explaining
