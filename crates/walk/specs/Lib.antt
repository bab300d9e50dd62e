pub mod Dots
pub mod DotLaws
pub mod Answers
pub mod Steps
