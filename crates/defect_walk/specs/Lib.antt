pub mod Scoped
pub mod Tellings
pub mod CollectionTellings
