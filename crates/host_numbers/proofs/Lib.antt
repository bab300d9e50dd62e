pub mod CountSteps
pub mod NumberTests
pub mod Instants
