pub mod OrderLaws
pub mod FieldLaws
pub mod Laws
pub mod Samples
