pub mod Wrote
pub mod WroteLaws
pub mod Laid
pub mod LaidLaws
pub mod Bytes
pub mod BytesLaws
