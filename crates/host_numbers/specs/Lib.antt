pub mod Counts
pub mod CountLaws
pub mod NumberTest
pub mod Version
pub mod InstantEntry
pub mod InstantLaws
