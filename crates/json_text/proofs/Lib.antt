pub mod EncodeLaws
pub mod EscapedLaws
pub mod GrammarLaws
pub mod NumberLaws
pub mod ShapedMembers
pub mod Hex
pub mod Chars
pub mod Scanning
pub mod Laying
pub mod Quoting
pub mod Tokens
pub mod Separating
mod Examples
