pub mod Mention
pub mod Change
pub mod Place
pub mod Draft
pub mod FieldText
