pub mod Names
pub mod Binders
pub mod Scopes
pub mod ScopeLaws
pub mod Roots
pub mod References
pub mod Collections
