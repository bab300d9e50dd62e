pub mod Shown
pub mod Verdicts
pub mod Literals
pub mod Frames
