pub mod RoundTrip
pub mod KeyLaws
pub mod RisingLaws
pub mod TreeLaws
pub mod SiblingLaws
pub mod ValueLaws
pub mod ConditionLaws
pub mod FieldLaws
pub mod SheetLaws
pub mod Places
pub mod Examples
mod Entries
mod Keys
mod Sizes
