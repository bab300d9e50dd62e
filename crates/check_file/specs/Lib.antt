pub mod File
pub mod Places
pub mod Line
pub mod LineLaws
pub mod Output
pub mod OutputLaws
