pub mod Bound
pub mod Compared
pub mod Finite
pub mod FirstDigit
pub mod Grammar
pub mod Parts
pub mod Tests
