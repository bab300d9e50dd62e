pub mod Depth
pub mod Bodies
pub mod Rules
