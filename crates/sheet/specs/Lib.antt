pub mod Operators
pub mod FieldKinds
pub mod Entries
pub mod Pieces
pub mod Places
pub mod Write
pub mod Within
pub mod Computing
