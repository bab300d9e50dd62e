pub mod TableLaws
pub mod DetailLaws
pub mod KeyLaws
pub mod CollectionLaws
pub mod Examples
pub mod Tables
