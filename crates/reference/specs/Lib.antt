pub mod Setting
pub mod Table
pub mod Path
pub mod Walk
pub mod Reference
pub mod Computing
