pub mod Apart
pub mod AsJson
pub mod Bare
pub mod Conversion
pub mod RuleStreamed
pub mod Shape
pub mod Streamed
